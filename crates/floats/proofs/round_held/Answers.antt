use mathlib.Core.Path.{◌≡◌, ap, ◌∙◌}
use Prim.Native.Nat.{ℕ, ◌≤◌}
use native.Mathlib.Omega.{arith}
use lib.IntN.{ℤ, pos, neg_ℤ, ◌-ℤ◌}
use lib.Ieee.{to_signed}
use mir.Syntax.{w32}
use mir.Val.{SFits, to_z, of_z}
use Rattle.std.specs.Int.{int_max, int_min}
use Rattle.std.proofs.lemmas.Int.{ints, clamps}
use Rattle.std.proofs.lemmas.Float.{T_from_true}
use Rattle.pcm.specs.laws.Integers.{answered}
use Rattle.floats.proofs.Cast.{held_round}
use Rattle.floats.proofs.round_held.Goals as goal

limits : (low high : ℕ) (s : ℤ) → low ≤ 33554432 → high ≤ 33554432 → SFits w32 s
    → int_max (to_z w32 (of_z w32 (pos 0 -ℤ to_z w32 (of_z w32 (to_z w32 low))))) (int_min (to_z w32 (of_z w32 s)) (to_z w32 (of_z w32 (to_z w32 high)))) ≡ int_max (neg_ℤ (pos low)) (int_min s (pos high))
limits low high s l h f = omega (arith, ints, clamps)

pub returns : goal.returns
returns c =
    let low = c.args.low in
    let high = c.args.high in
    answered w32 c.clamp.type_inv
    (rw (c.cast_signed.ensures, c.cast_signed-2.ensures) at c.clamp.ensures.value
    ∙ limits low high c.saturating_f32_to_i32.result c.requires.0 c.requires.1 (record { sfits = c.saturating_f32_to_i32.type_inv })
    ∙ ap (λ (s : ℤ). int_max (neg_ℤ (pos low)) (int_min s (pos high))) (c.saturating_f32_to_i32.ensures ∙ ap (to_signed 31) c.round.ensures)
    ∙ held_round low high c.requires.0 c.requires.1 c.args.x (T_from_true _ c.well_formed.0.1))
