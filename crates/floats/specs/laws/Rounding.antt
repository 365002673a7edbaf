-- What is rounded to a sample is a sample. Assumes nothing.
use Rattle.std.specs.Prelude.{ℕ, zero, suc, ◌*◌, ◌≤◌, min, Bool, true, false, cond, pos, neg_ℤ, Float}
use Rattle.std.proofs.Common.{arith, lit<, SFits}
use Rattle.std.specs.Float.{nan, inf, fin}
use Rattle.std.specs.Float.Ieee.{up, down}
use Rattle.std.specs.Int.{w16}
use Rattle.floats.specs.Rounding.{half_up, round_sat, rounded16}

low_fits : (k : ℕ) → k ≤ 32768 → SFits w16 (neg_ℤ (pos k))
low_fits zero h = record { sfits = lit< tt }
low_fits (suc k) h = record { sfits = h }

either_fits : (s : Bool) (k n : ℕ) → k ≤ 32768 → n ≤ 32767 → SFits w16 (cond s (neg_ℤ (pos k)) (pos n))
either_fits true k n h l = low_fits k h
either_fits false k n h l = record { sfits = omega arith }

pub round_fits : (x : Float) → SFits w16 (rounded16 x)
unfolding round_sat
round_fits nan = record { sfits = lit< tt }
round_fits (inf s) = either_fits s 32768 32767 (omega arith) (omega arith)
round_fits (fin s m e) = either_fits s (min (half_up (m * up e) (down e)) 32768) (min (half_up (m * up e) (down e)) 32767) (omega arith) (omega arith)
