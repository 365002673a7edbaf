-- The sample before is the state's, or one of the block's. Assumes nothing.
use Rattle.std.proofs.Common.{◌≡◌, ◌∷◌, sym, ap₂, ◌∙◌, ℤ, pos, get_or, arith, rules, SFits, to_z, to_z-of_z}
use Rattle.std.specs.Int.{w16}
use Rattle.pcm.specs.laws.Integers.{answered}
use Rattle.pcm.specs.Frames.{frames_of}
use Rattle.pcm.specs.laws.Frames.{sample_of_lem}
use Rattle.resample.specs.Value.{interpolated}
use Rattle.resample.specs.Neighbours.{sample_in}
use Rattle.resample.proofs.Interpolating.{sample_before}
use Rattle.resample.proofs.between.Goals as goal
use Rattle.resample.proofs.between.Goals.{then-at-eq0, else-at-eq0}

pub returns : goal.returns
returns g c =
    let a = c.args in
    let r = c.requires in
    let e : to_z w16 c.if-at-eq0.before-bits ≡ sample_in (a.last ∷ frames_of g.row.C a.input.now) a.at.frame a.c =
    elim c.if-at-eq0.branch [
      | then-at-eq0 w ↦ let f : SFits w16 (get_or a.last a.c (pos 0)) = search rules in w.before-is ∙ rw w.if-at-eq0.true (to_z-of_z f)
      | else-at-eq0 w ↦ w.before-is ∙ answered w16 w.get_i16-before.type_inv (w.get_i16-before.ensures ∙ sym (sample_before g.row.C a.last a.input.now r.0.whole a.at.frame a.c (omega arith) r.1 r.3))
    ] in
    answered w16 c.interpolate.type_inv (c.interpolate.ensures
    ∙ ap₂ (λ (x y : ℤ). interpolated x y a.at.frac) e (answered w16 c.get_i16.type_inv c.get_i16.ensures ∙ sym (sample_of_lem g.row.C a.input.now r.0.whole a.at.frame a.c r.1 r.3)))
