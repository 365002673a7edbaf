-- A fraction that is less than a half away from a whole number is rounded to it. Assumes nothing.
use mathlib.Core.Path.{◌≡◌, subst}
use Prim.Native.Nat.{ℕ, suc, ◌+◌, ◌*◌, ◌/◌, ◌%◌, ◌≤◌, ◌<◌, compare, Ordering}
use native.Mathlib.Nat.{le_antisymm, le_of_suc-le-suc, lt_of_mul-lt-mul_right, mod-lt, div-add-mod'}
use native.Mathlib.Omega.{arith}
use mathlib.Core.Bool.{not}
use lib.Dec.{T, is_le, compare_is_eq, leb→le, nleb→lt, eqb→eq, eqb, eqb_refl}
use lib.Arith.{lt_of_le-ne}
use lib.Ieee.{nearest}
use lib.Ieee.Nearest.{closest}

abbrev Cmp : Ordering → ℕ → ℕ → Type 0
Cmp Ordering.lt a b = a < b
Cmp Ordering.eq a b = a ≡ b
Cmp Ordering.gt a b = b < a

cmp : (a b : ℕ) → Cmp (compare a b) a b
cmp a b = go (compare a b) (leb→le a b) (nleb→lt a b) (eqb→eq a b) (λ (e : a ≡ b). subst (λ (x : ℕ). T (eqb a x)) e (eqb_refl a))
  where
    go : (o : Ordering) → (T (is_le o) → a ≤ b) → (T (not (is_le o)) → b < a) → (T (compare_is_eq o) → a ≡ b) → (a ≡ b → T (compare_is_eq o)) → Cmp o a b
    go Ordering.lt h k e n = lt_of_le-ne (h tt) n
    go Ordering.eq h k e n = e tt
    go Ordering.gt h k e n = k tt

-- less than a half away
pub closest_within : (a b c : ℕ) → c * b * 2 < a * 2 + b → a * 2 < c * b * 2 + b → closest a b ≡ c
closest_within a b c low high = go (compare (a % b * 2) b) (cmp (a % b * 2) b)
  where
    upto : (x y : ℕ) → x * b < suc y * b → x ≤ y
    upto x y h = le_of_suc-le-suc (lt_of_mul-lt-mul_right b h)

    above : 0 < b
    above = omega arith

    go : (o : Ordering) → Cmp o (a % b * 2) b → nearest (a / b) o ≡ c
    go Ordering.lt h = le_antisymm (upto (a / b) c (omega (arith, div-add-mod' a b))) (upto c (a / b) (omega (arith, div-add-mod' a b)))
    go Ordering.eq h = absurd (omega (arith, upto (suc (a / b)) c (omega (arith, div-add-mod' a b)), upto c (a / b) (omega (arith, div-add-mod' a b))))
    go Ordering.gt h = le_antisymm (upto (suc (a / b)) c (omega (arith, div-add-mod' a b))) (upto c (suc (a / b)) (omega (arith, div-add-mod' a b, mod-lt a above)))
