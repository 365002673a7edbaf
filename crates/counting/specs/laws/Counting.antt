-- Counts add up over any cutting, and are at most the samples. Assumes nothing.
use Rattle.std.specs.Prelude.{◌≡◌, refl, Bool, true, false, List, [], ◌∷◌, ◌++◌, ℕ, ◌+◌, ◌≤◌, ◌<◌, ℤ, pos, length, take, get_or}
use Rattle.std.proofs.Common.{ap, ◌∙◌, arith, SFits}
use Rattle.std.proofs.lemmas.List.{take_more}
use Rattle.std.specs.Int.{w16, from_bool}
use Rattle.pcm.specs.Samples.{Samples}
use Rattle.counting.specs.Counting.{one, count_of}

-- a test taken for a number
pub from_bool_is : (b : Bool) → from_bool b ≡ one b
from_bool_is true = refl
from_bool_is false = refl

pub one_le : (b : Bool) → one b ≤ 1
one_le true = omega arith
one_le false = omega arith

module _ (p : ℤ → Bool) where
  pub count-append : (xs ys : List ℤ) → count_of p (xs ++ ys) ≡ count_of p xs + count_of p ys
  count-append [] ys = omega arith
  count-append (x ∷ xs) ys = omega (arith, count-append xs ys)

  pub count_le : (xs : List ℤ) → count_of p xs ≤ length xs
  count_le [] = omega arith
  count_le (x ∷ xs) = omega (arith, count_le xs, one_le (p x))

-- two tests that agree on samples count the same
pub count_same : (p q : ℤ → Bool) → ((x : ℤ) → SFits w16 x → p x ≡ q x) → (xs : List ℤ) → Samples xs → count_of p xs ≡ count_of q xs
count_same p q h [] f = refl
count_same p q h (x ∷ xs) f = rw (h x f.0) (ap (λ n. one (q x) + n) (count_same p q h xs f.1))

pub count_none : (xs : List ℤ) → count_of (λ x. false) xs ≡ 0
count_none [] = refl
count_none (x ∷ xs) = omega (arith, count_none xs)

-- one sample more
pub count_more : (p : ℤ → Bool) (xs : List ℤ) (k : ℕ) → k < length xs → count_of p (take (k + 1) xs) ≡ count_of p (take k xs) + one (p (get_or xs k (pos 0)))
count_more p xs k h = ap (count_of p) (take_more xs k (pos 0) h) ∙ omega (arith, count-append p (take k xs) (get_or xs k (pos 0) ∷ []))
