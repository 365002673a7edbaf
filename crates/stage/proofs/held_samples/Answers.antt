use Rattle.std.proofs.Common.{◌≡◌, List, [], ◌∷◌, length, get_or, ap, arith, rules, ℤ, pos, to_z, of_z, to_z-of_z}
use mir.Syntax.{w16}
use mir.Val.{SFits}
use Rattle.pcm.specs.Samples.{Samples}
use Rattle.stage.proofs.held_samples.Goals as goal

-- two samples read and put back
pair : (l : List ℤ) → length l ≡ 2 → SFits w16 (get_or l 0 (pos 0)) → SFits w16 (get_or l 1 (pos 0))
    → (to_z w16 (of_z w16 (get_or l 0 (pos 0))) ∷ to_z w16 (of_z w16 (get_or l 1 (pos 0))) ∷ [] ≡ l) × Samples l
pair [] e f g = absurd (omega arith)
pair (x ∷ []) e f g = absurd (omega arith)
pair (x ∷ y ∷ []) e f g = (rw (to_z-of_z f, to_z-of_z g), (f, (g, tt)))
pair (x ∷ y ∷ z ∷ l) e f g = absurd (omega arith)

pub returns : goal.returns
returns c =
    let s = c.args.state in
    let two : length s.last ≡ 2 = search rules in
    let f : SFits w16 (get_or s.last 0 (pos 0)) = search rules in
    let g : SFits w16 (get_or s.last 1 (pos 0)) = search rules in
    let p = pair s.last two f g in
    (ap (λ (l : List ℤ). record { last = l; phase = s.phase; primed = s.primed }) p.0, p.1, two)
