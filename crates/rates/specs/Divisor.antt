-- The greatest common divisor, by which rates are divided (document 01, resample.rs), and the steps of its search (document 02). Assumes nothing.
use Rattle.std.specs.Prelude.{cond, ℕ, zero, suc, ◌%◌, eqb, leb}
use Rattle.std.specs.Int.{◌∣◌}

-- g divides a and b, and each number that divides both divides g
pub record GreatestCommonDivisor (a b g : ℕ) : Type 0 where
  pub first : g ∣ a
  pub second : g ∣ b
  pub greatest : (d : ℕ) → d ∣ a → d ∣ b → d ∣ g

-- the largest of 1, .., n that divides a and b
unfoldable pub largest_divisor : ℕ → ℕ → ℕ → ℕ
largest_divisor zero a b = zero
largest_divisor (suc n) a b = cond (eqb (a % suc n) 0) (cond (eqb (b % suc n) 0) (suc n) (largest_divisor n a b)) (largest_divisor n a b)

-- the largest number that divides both, where a is above 0
unfoldable pub gcd : ℕ → ℕ → ℕ
gcd a b = largest_divisor a a b

-- Euclid's search divides a by b, b by the remainder, and so on: how many remainders, n at most, until one, or b itself, is at most `last`
unfoldable pub remainders_within : ℕ → ℕ → ℕ → ℕ → ℕ
remainders_within zero last a b = zero
remainders_within (suc n) last a b = cond (leb b last) zero (suc (remainders_within n last b (a % b)))

-- each is below the one before, so b are enough; `last` is 0 in a search to the end, 1 in one that stops early
abbrev pub remainders_to : ℕ → ℕ → ℕ → ℕ
remainders_to last a b = remainders_within b last a b
