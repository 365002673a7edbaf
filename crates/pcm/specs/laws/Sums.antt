-- Two samples, and their sum. Assumes nothing.
use Rattle.std.specs.Prelude.{ℕ, suc, ◌≤◌, ◌<◌, ℤ, pos, negsuc, ◌+ℤ◌}
use Rattle.std.proofs.Math.Decide.{dec_lt}
use Rattle.std.proofs.Common.{arith, lit<, SFits}
use Rattle.std.proofs.Math.IntN.{sub_ℕ}
use Rattle.std.specs.Int.{w16, w32}
use Rattle.std.proofs.Math.Facts.{sfits_widen}
use Rattle.pcm.specs.laws.Integers.{add_within, fits_within, within_fits, sub_lt, sub_ge}

-- all fit 32 bits
pub record Summed (a b : ℤ) : Type 0 where
  pub left : SFits w32 a
  pub right : SFits w32 b
  pub sum : SFits w32 (a +ℤ b)

pub summed : (a b : ℤ) → SFits w16 a → SFits w16 b → Summed a b
summed a b f g = record {
  left = sfits_widen tt f;
  right = sfits_widen tt g;
  sum = fits_within w32 (a +ℤ b) (add_within a b (within_fits a f) (within_fits b g)) (lit< tt);
}

-- the sum lies between -65,536 and 65,534
abbrev pub SumRange : ℤ → Type 0
SumRange (pos n) = n ≤ 65534
SumRange (negsuc n) = n ≤ 65535

mixed_signs : (a b : ℕ) → SFits w16 (pos a) → SFits w16 (negsuc b) → SumRange (sub_ℕ a (suc b))
mixed_signs a b f g = go (dec_lt a (suc b))
  where
    go : Dec (a < suc b) → SumRange (sub_ℕ a (suc b))
    go (yes l) = rw (sub_lt a (suc b) l) (omega (arith, g.sfits))
    go (no l) = let h : suc b ≤ a = omega arith in rw (sub_ge a (suc b) h) (omega (arith, f.sfits))

pub sum_range : (a b : ℤ) → SFits w16 a → SFits w16 b → SumRange (a +ℤ b)
sum_range (pos a) (pos b) f g = omega (arith, f.sfits, g.sfits)
sum_range (pos a) (negsuc b) f g = mixed_signs a b f g
sum_range (negsuc a) (pos b) f g = mixed_signs b a g f
sum_range (negsuc a) (negsuc b) f g = omega (arith, f.sfits, g.sfits)
