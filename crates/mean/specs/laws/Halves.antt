-- Half of a number, to the nearest: of the sum of two samples it is a sample. Assumes nothing.
use Rattle.std.specs.Prelude.{◌≡◌, refl, ℕ, zero, suc, ◌≤◌, ℤ, pos, negsuc, neg_ℤ}
use Rattle.std.proofs.Common.{sym, arith, SFits}
use Rattle.std.specs.Float.Ieee.Nearest.{closest}
use Rattle.std.proofs.Math.IntN.{neg_ℤ-neg_ℤ}
use Rattle.std.specs.Int.{w16}
use Rattle.pcm.specs.Integers.{−, nearest_div}
use Rattle.pcm.specs.laws.Nearest.{closest_nearest}
use Rattle.pcm.specs.laws.Sums.{SumRange}

below_fits : (c : ℕ) → c ≤ 32768 → SFits w16 (− c)
below_fits zero h = record { sfits = omega arith }
below_fits (suc c) h = record { sfits = omega arith }

pub half_fits : (z : ℤ) → SumRange z → SFits w16 (nearest_div z 2)
unfolding nearest_div
half_fits (pos n) h = record { sfits = omega (arith, (closest_nearest n 2 (omega arith)).high) }
half_fits (negsuc n) h = below_fits (closest (suc n) 2) (omega (arith, (closest_nearest (suc n) 2 (omega arith)).high))

pub half_turned : (z : ℤ) → nearest_div (neg_ℤ z) 2 ≡ neg_ℤ (nearest_div z 2)
unfolding nearest_div
half_turned (pos zero) = refl
half_turned (pos (suc n)) = refl
half_turned (negsuc n) = sym (neg_ℤ-neg_ℤ (pos (closest (suc n) 2)))
