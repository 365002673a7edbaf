-- Rounding a fraction to a whole number, a half up. Assumes nothing.
use mathlib.Core.Path.{◌≡◌, refl, sym, ◌∙◌}
use mathlib.Core.Bool.{Bool, true, false, cond}
use Prim.Native.Nat.{ℕ, suc, ◌+◌, ◌*◌, ◌/◌, ◌%◌, ◌≤◌, ◌<◌}
use native.Mathlib.Nat.{add-mul, mul_assoc, mod-lt, div-add-mod', div-eq_of_lt-le, div-lt_iff_lt-mul, le_of_suc-le-suc, mul-le-mul_left}
use native.Mathlib.Omega.{arith}
use borrow.Author.Tests.{leb-true, leb-false}
use lib.Dec.{leb}
use Rattle.floats.specs.Rounding.{half_up}

-- ---- `half_up` is one division, and equal fractions give the same number
pub half_up_is : (n d : ℕ) → 0 < d → half_up n d ≡ (n * 2 + d) / (d * 2)
unfolding half_up
half_up_is n d D = go (leb d (n % d * 2)) refl
  where
    go : (b : Bool) → leb d (n % d * 2) ≡ b → n / d + cond b 1 0 ≡ (n * 2 + d) / (d * 2)
    go true h =
        sym (div-eq_of_lt-le {k = n / d + 1} (d * 2) {m = n * 2 + d}
        (omega (arith, leb-true d (n % d * 2) h, add-mul (n / d) 1 (d * 2), mul_assoc (n / d) d 2, div-add-mod' n d))
        (omega (arith, add-mul (n / d + 1) 1 (d * 2), add-mul (n / d) 1 (d * 2), mul_assoc (n / d) d 2, div-add-mod' n d, mod-lt n D)))
    go false h =
        sym (div-eq_of_lt-le {k = n / d + 0} (d * 2) {m = n * 2 + d}
        (omega (arith, add-mul (n / d) 0 (d * 2), mul_assoc (n / d) d 2, div-add-mod' n d))
        (omega (arith, leb-false d (n % d * 2) h, add-mul (n / d + 0) 1 (d * 2), add-mul (n / d) 0 (d * 2), mul_assoc (n / d) d 2, div-add-mod' n d)))

twice-pos : (d : ℕ) → 0 < d → 0 < d * 2
twice-pos d h = omega arith

-- n / d lies at most a half below the number, and less than a half above it
module _ (n d : ℕ) (D : 0 < d) where
  pub half_up_below : half_up n d * d * 2 ≤ n * 2 + d
  half_up_below = rw (half_up_is n d D) (omega (arith, div-add-mod' (n * 2 + d) (d * 2)))

  pub half_up_above : n * 2 < half_up n d * d * 2 + d
  half_up_above = rw (half_up_is n d D) (omega (arith, div-add-mod' (n * 2 + d) (d * 2), mod-lt (n * 2 + d) (twice-pos d D)))

pub half_up-one : (n : ℕ) → half_up n 1 ≡ n
half_up-one n = half_up_is n 1 (omega arith) ∙ (omega arith)

pub half_up-le : (n d : ℕ) → 2 ≤ d → half_up n d ≤ n
half_up-le n d h = rw (half_up_is n d (omega arith)) (le_of_suc-le-suc ((div-lt_iff_lt-mul {k = d * 2} {x = n * 2 + d} {y = suc n} (omega arith)).1 (omega (arith, mul-le-mul_left n h))))
