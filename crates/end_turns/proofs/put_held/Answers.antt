use Rattle.std.proofs.Common.{◌≡◌, ◌*◌, ◌≤◌, ℕ, List, [], ◌∷◌, length, take, true, false, ap, arith, eq-eqb, ne_eqb}
use Rattle.std.proofs.lemmas.Bool.{not-true, not-false}
use Rattle.pcm.specs.Frames.{Frame}
use Rattle.rates.specs.declared.LinearResampler.{LinearResampler}
use Rattle.rates.specs.declared.ResamplerState.{ResamplerState}
use Rattle.ending.specs.ResamplerEnd.{held_last, resampler_end}
use Rattle.end_turns.proofs.Fronting.{none_fronted}
use Rattle.end_turns.proofs.put_held.Goals as goal
use Rattle.end_turns.proofs.put_held.Goals.{then-r-via-then-r, then-r-via-else-r+then-not-s, then-r-via-else-r+else-not-s+then-s-ne0}

module _ (ch : ℕ) (r : LinearResampler) (s : ResamplerState) where
  equal : r.in_rate ≡ r.out_rate → resampler_end ch r s ≡ []
  unfolding resampler_end
  equal e = rw (eq-eqb r.in_rate r.out_rate e)

  module _ (unequal : r.in_rate ≡ r.out_rate → ⊥) where
    not_held : s.primed ≡ false → resampler_end ch r s ≡ []
    unfolding resampler_end held_last
    not_held p = rw (ne_eqb r.in_rate r.out_rate unequal, p)

    module _ (primed : s.primed ≡ true) where
      not_on_it : (s.phase ≡ 0 → ⊥) → resampler_end ch r s ≡ []
      unfolding resampler_end held_last
      not_on_it z = rw (ne_eqb r.in_rate r.out_rate unequal, primed, ne_eqb s.phase 0 z)

      on_it : s.phase ≡ 0 → resampler_end ch r s ≡ take ch s.last ∷ []
      unfolding resampler_end held_last
      on_it z = rw (ne_eqb r.in_rate r.out_rate unequal, primed, eq-eqb s.phase 0 z)

      room : s.phase ≡ 0 → (n : ℕ) → length (resampler_end ch r s) * (ch * 2) ≤ n → ch * 2 ≤ n
      room z n h = omega (arith, ap (λ (l : List Frame). length l * (ch * 2)) (on_it z))

pub returns-then-r : goal.returns-then-r
returns-then-r c =
    let a = c.args in
    none_fronted _ a.out.now
    (elim c.then-r.branch [
      | then-r-via-then-r w ↦ equal a.channels a.r a.s w.if-r.true
      | then-r-via-else-r+then-not-s w ↦ not_held a.channels a.r a.s w.if-r.false (not-true _ w.if-not-s.true)
      | then-r-via-else-r+else-not-s+then-s-ne0 w ↦ not_on_it a.channels a.r a.s w.if-r.false (not-false _ w.if-not-s.false) w.if-s-ne0.true
    ])

pub put_frame-requires : goal.put_frame-requires
put_frame-requires c =
    let a = c.args in
    (c.requires.0, room a.channels a.r a.s c.if-r.false (not-false _ c.if-not-s.false) c.if-s-ne0.false (length a.out.now) c.requires.1)

pub returns : goal.returns
returns c =
    let a = c.args in
    rw (on_it a.channels a.r a.s c.if-r.false (not-false _ c.if-not-s.false) c.if-s-ne0.false) c.put_frame.ensures
