-- A held float h to a sample by h * (1 + 2 ^ -28) + 3 * 2 ^ 51 in binary64. The product is exact, and moves halves away from zero and nothing else past one.
-- The sum lies where binary64's step is 1, and its lowest 16 bits are the sample's. Assumes nothing.
use mathlib.Core.Path.{◌≡◌, refl, sym, ap, ◌∙◌, subst}
use mathlib.Core.Logic.{inl, inr}
use mathlib.Core.Bool.{Bool, true, false, not, ◌&&◌}
use Prim.Native.Nat.{ℕ, zero, suc, ◌+◌, ◌-◌, ◌*◌, ◌%◌, ◌^◌, ◌≤◌, ◌<◌, min}
use native.Mathlib.Nat.{le_trans, lt_of_lt_of_le, not-le_of_lt, mul-pos, mul_assoc, mul-le-mul_right, mul-lt-mul_of_pos_right, lt_of_mul-lt-mul_right}
use native.Mathlib.Omega.{arith}
use borrow.Author.Tests.{lt-ltb}
use lib.Dec.{T, ltb, eqb, leb, leb→le, eqb→eq, lit≤}
use lib.IntN.{ℤ, pos, negsuc, neg_ℤ}
use lib.Pow.{pow-add, pow_pos, pow-lt, pow_mono, shl_lt}
use lib.Ieee.{Float, nan, inf, fin, binary32, binary64, up, down, round, sum, add, mul, fits, is_nan, to_bits}
use lib.Ieee.Fits.{up_pos, down_pos, and_l, and_r}
use lib.Ieee.Exact.{HasValue, round_exact}
use lib.Ieee.Back.{round_whole}
use lib.Ieee.Scale.{round_same}
use mir.Syntax.{w16}
use mir.Val.{of_z}
use Rattle.pcm.specs.laws.Tests.{lt_or_ge}
use Rattle.floats.proofs.HalfUp.{half_up_below, half_up_above}
use Rattle.floats.proofs.Held.{significand}
use Rattle.floats.proofs.Whole.{round_to_whole, whole_bits}
use Rattle.floats.specs.Rounding.{half_up, magnitude, round_sat}

-- ---- a / d, moved away from zero by 2 ^ -28 of it, is less than a half from the number that it rounds to
module _ (a d : ℕ) (D : 0 < d) where
  nudged_below : half_up a d * (d * 2 ^ 28) * 2 < a * (2 ^ 28 + 1) * 2 + d * 2 ^ 28
  nudged_below = go a (half_up a d) (half_up_below a d D)
    where
      go : (a n : ℕ) → n * d * 2 ≤ a * 2 + d → n * (d * 2 ^ 28) * 2 < a * (2 ^ 28 + 1) * 2 + d * 2 ^ 28
      go zero zero h = omega arith
      go zero (suc n) h = absurd (omega arith)
      go (suc a) n h = omega arith

  nudged_above : a < 2 ^ 27 → a * (2 ^ 28 + 1) * 2 < half_up a d * (d * 2 ^ 28) * 2 + d * 2 ^ 28
  nudged_above h = omega (arith, half_up_above a d D)

-- ---- the product is exact
abbrev pub nudge : Float
nudge = fin false (2 ^ 28 + 1) (negsuc 27)

abbrev pub offset : Float
offset = fin false 3 (pos 51)

-- 1 / down e is a multiple of 2 ^ -1046
multiple : (e : ℤ) → down e ≤ 2 ^ 149 → (j : ℕ) × (j ≤ 1046) × (2 ^ 1046 ≡ 2 ^ j * down e)
multiple (pos k) h = (1046, omega arith, refl)
multiple (negsuc k) h = elim (lt_or_ge 149 (suc k)) [
  | inl l ↦ absurd (not-le_of_lt (pow-lt l) h)
  | inr l ↦ (1046 - suc k, omega arith, ap (λ (x : ℕ). 2 ^ x) (whole (suc k) l) ∙ pow-add 2 (1046 - suc k) (suc k))
]
  where
    whole : (k : ℕ) → k ≤ 149 → 1046 ≡ 1046 - k + k
    whole k l = omega arith

down_within : (s : Bool) (m : ℕ) (e : ℤ) → T (fits binary32 (fin s m e)) → down e ≤ 2 ^ 149
unfolding fits
down_within s zero e f = one (up e) (down e) (up_pos e) (eqb→eq (up e * down e) 1 f)
  where
    one : (u d : ℕ) → 0 < u → u * d ≡ 1 → d ≤ 2 ^ 149
    one zero d h k = elim h [ ]
    one (suc u) d h k = le_trans (at_most u d k) (lit≤ tt)
      where
        at_most : (u d : ℕ) → suc u * d ≡ 1 → d ≤ 1
        at_most u d k = omega arith
down_within s (suc m) e f =
    let a = eqb (suc m % 2) 1 && ltb (suc m) (2 ^ 24) in
    let c = leb (down e) (2 ^ 149) in
    leb→le (down e) (2 ^ 149) (and_r a c (and_l (a && c) (ltb (suc m * up e) (2 ^ 128 * down e)) f))

units_are : (q P J d c : ℕ) → P ≡ J * d → q * (P * c) ≡ q * J * (d * c)
units_are q P J d c h = rw h (simp mul_assoc)

product_exact : (s : Bool) (a : ℕ) (e : ℤ) → a < 2 ^ 24 → down e ≤ 2 ^ 149 → HasValue (round binary64 s (a * (2 ^ 28 + 1)) (down e * 2 ^ 28)) s (a * (2 ^ 28 + 1)) (down e * 2 ^ 28)
product_exact s a e h k =
    let j = multiple e k in
    let q : a * (2 ^ 28 + 1) < 2 ^ 53 = omega arith in
    let l : 53 + j.0 ≤ 2098 = omega (arith, j.1) in
    round_exact binary64 s (a * (2 ^ 28 + 1)) (down e * 2 ^ 28) (a * (2 ^ 28 + 1)) j.0 (mul-pos (down_pos e) (pow_pos 28)) q
    (lt_of_lt_of_le (shl_lt 53 j.0 q) (pow_mono {i = 53 + j.0} {j = 2098} l))
    (units_are (a * (2 ^ 28 + 1)) (2 ^ 1046) (2 ^ j.0) (down e) (2 ^ 28) j.2)

product : (s : Bool) (m : ℕ) (e : ℤ) → m * up e < 2 ^ 24 → down e ≤ 2 ^ 149 → HasValue (mul binary64 (fin s m e) nudge) s (m * up e * (2 ^ 28 + 1)) (down e * 2 ^ 28)
unfolding mul
product true m e h k = product_exact true (m * up e) e h k
product false m e h k = product_exact false (m * up e) e h k

-- ---- the sum is one fraction, rounded
sum_positive : (x : Float) (a c : ℕ) → 0 < c → HasValue x false a c → add binary64 x offset ≡ round binary64 false (a + 3 * 2 ^ 51 * c) c
unfolding add sum
sum_positive nan a c C v = absurd v
sum_positive (inf s) a c C v = absurd v
sum_positive (fin true m e) a c C v = absurd (let z : ◌≡◌ {A = ℕ} 0 1 = cc v.0 in omega arith)
sum_positive (fin false m e) a c C v =
    round_same binary64 false (m * up e * 1 + 3 * 2 ^ 51 * down e) (down e * 1) (a + 3 * 2 ^ 51 * c) c (mul-pos (down_pos e) (pow_pos 0)) C (same (m * up e) (down e) v.1)
  where
    same : (A d : ℕ) → A * c ≡ a * d → (A * 1 + 3 * 2 ^ 51 * d) * c ≡ (a + 3 * 2 ^ 51 * c) * (d * 1)
    same A d h = omega arith

sum_negative : (x : Float) (a c n : ℕ) → 0 < c → HasValue x true a c → n + a ≡ 3 * 2 ^ 51 * c → 0 < n → add binary64 x offset ≡ round binary64 false n c
unfolding add sum
sum_negative nan a c n C v h k = absurd v
sum_negative (inf s) a c n C v h k = absurd v
sum_negative (fin false m e) a c n C v h k = absurd (let z : ◌≡◌ {A = ℕ} 0 1 = cc v.0 in omega arith)
sum_negative (fin true m e) a c n C v h k =
    let l = less (m * up e) (down e) (down_pos e) v.1 in
    rw (lt-ltb (m * up e * 1) (3 * 2 ^ 51 * down e) l)
    (round_same binary64 false (3 * 2 ^ 51 * down e - m * up e * 1) (down e * 1) n c (mul-pos (down_pos e) (pow_pos 0)) C
    (same (m * up e) (down e) (3 * 2 ^ 51 * down e - m * up e * 1) v.1 (back (3 * 2 ^ 51 * down e) (m * up e) l)))
  where
    less : (A d : ℕ) → 0 < d → A * c ≡ a * d → A * 1 < 3 * 2 ^ 51 * d
    less A d D g = lt_of_mul-lt-mul_right c (let p : a * d < 3 * 2 ^ 51 * c * d = mul-lt-mul_of_pos_right (under a n (3 * 2 ^ 51 * c) h k) D in omega arith)
      where
        under : (a n b : ℕ) → n + a ≡ b → 0 < n → a < b
        under a n b h k = omega arith

    back : (B A : ℕ) → A * 1 < B → B - A * 1 + A ≡ B
    back B A l = omega arith

    same : (A d X : ℕ) → A * c ≡ a * d → X + A ≡ 3 * 2 ^ 51 * d → X * c ≡ n * (d * 1)
    same A d X g l = omega (arith, ap (λ (y : ℕ). y * c) l, ap (λ (y : ℕ). y * d) h)

-- ---- the sum, its pattern and its lowest bits
abbrev pub lifted : Float → Float
lifted h = add binary64 (mul binary64 h nudge) offset

pub record Lowest (h : Float) : Type 0 where
  pub number : T (not (is_nan (lifted h)))
  pub bits : to_bits binary64 (lifted h) % 65536 ≡ of_z w16 (round_sat 33554432 33554432 h)

has_number : (x : Float) (s : Bool) (a c : ℕ) → HasValue x s a c → T (not (is_nan x))
unfolding is_nan
has_number nan s a c v = absurd v
has_number (inf t) s a c v = absurd v
has_number (fin t m e) s a c v = tt

module _ (h : Float) (n d z : ℕ) (is : lifted h ≡ round binary64 false n d) (below : z * d * 2 < n * 2 + d) (above : n * 2 < z * d * 2 + d) (from : 3 * 2 ^ 51 ≤ z + 32768) (to : z ≤ 3 * 2 ^ 51 + 32768) (low : z % 65536 ≡ of_z w16 (round_sat 33554432 33554432 h)) where
  value : HasValue (lifted h) false z 1
  value = subst (λ (x : Float). HasValue x false z 1) (sym (is ∙ round_to_whole binary64 52 refl false n d z below above (omega arith) (omega arith))) (round_whole binary64 false z (omega arith))

  lowest_of : Lowest h
  lowest_of = record {
    number = has_number (lifted h) false z 1 value;
    bits = ap (λ (b : ℕ). b % 65536) (whole_bits binary64 52 refl (lifted h) z (omega arith) (omega arith) value) ∙ cut z ∙ low;
  }
    where
      cut : (z : ℕ) → (1074 * 2 ^ 52 + z) % 65536 ≡ z % 65536
      cut z = omega arith

small : (s : Bool) (m : ℕ) (e : ℤ) → T (fits binary32 (fin s m e)) → half_up (m * up e) (down e) ≤ 32768 → m * up e < 2 ^ 24
small s m (pos k) f h = omega (arith, half_up_above (m * 2 ^ k) 1 (omega arith))
small s m (negsuc k) f h = omega (arith, significand s m (negsuc k) f)

low_bits_positive : (n : ℕ) → n ≤ 32768 → (3 * 2 ^ 51 + n) % 65536 ≡ min n 33554432
low_bits_positive n h = omega arith

low_bits_negative : (n : ℕ) → n ≤ 32768 → (3 * 2 ^ 51 - n) % 65536 ≡ of_z w16 (neg_ℤ (pos (min n 33554432)))
low_bits_negative zero h = refl
low_bits_negative (suc n) h = let e : min (suc n) 33554432 ≡ suc n = omega arith in rw e (omega arith)

module _ (a d n : ℕ) (below : n * (d * 2 ^ 28) * 2 < a * (2 ^ 28 + 1) * 2 + d * 2 ^ 28) (above : a * (2 ^ 28 + 1) * 2 < n * (d * 2 ^ 28) * 2 + d * 2 ^ 28) where
  positive_below : (3 * 2 ^ 51 + n) * (d * 2 ^ 28) * 2 < (a * (2 ^ 28 + 1) + 3 * 2 ^ 51 * (d * 2 ^ 28)) * 2 + d * 2 ^ 28
  positive_below = omega arith

  positive_above : (a * (2 ^ 28 + 1) + 3 * 2 ^ 51 * (d * 2 ^ 28)) * 2 < (3 * 2 ^ 51 + n) * (d * 2 ^ 28) * 2 + d * 2 ^ 28
  positive_above = omega arith

  module _ (N z : ℕ) (sum_is_lem : N + a * (2 ^ 28 + 1) ≡ 3 * 2 ^ 51 * (d * 2 ^ 28)) (z-is : z + n ≡ 3 * 2 ^ 51) where
    negative_below : z * (d * 2 ^ 28) * 2 < N * 2 + d * 2 ^ 28
    negative_below = omega (arith, ap (λ (y : ℕ). y * d) z-is)

    negative_above : N * 2 < z * (d * 2 ^ 28) * 2 + d * 2 ^ 28
    negative_above = omega (arith, ap (λ (y : ℕ). y * d) z-is)

  under : 0 < d → n ≤ 32768 → a * (2 ^ 28 + 1) < 3 * 2 ^ 51 * (d * 2 ^ 28)
  under D h = omega (arith, mul-le-mul_right d h)

remains : (A B : ℕ) → A < B → (B - A + A ≡ B) × (0 < B - A)
remains A B h = (omega arith, omega arith)

pub lowest : (h : Float) → T (fits binary32 h) → T (not (is_nan h)) → magnitude h ≤ 32768 → Lowest h
unfolding magnitude is_nan round_sat
lowest nan f t h = absurd t
lowest (inf s) f t h = absurd (omega arith)
lowest (fin false m e) f t h =
    let a = m * up e in
    let d = down e in
    let n = half_up a d in
    let l = small false m e f h in
    let D = mul-pos (down_pos e) (pow_pos 28) in
    let lo = nudged_below a d (down_pos e) in
    let hi = nudged_above a d (down_pos e) (omega arith) in
    lowest_of (fin false m e) (a * (2 ^ 28 + 1) + 3 * 2 ^ 51 * (d * 2 ^ 28)) (d * 2 ^ 28) (3 * 2 ^ 51 + n)
    (sum_positive (mul binary64 (fin false m e) nudge) (a * (2 ^ 28 + 1)) (d * 2 ^ 28) D (product false m e l (down_within false m e f)))
    (positive_below a d n lo hi) (positive_above a d n lo hi) (omega arith) (omega arith) (low_bits_positive n h)
lowest (fin true m e) f t h =
    let a = m * up e in
    let d = down e in
    let n = half_up a d in
    let l = small true m e f h in
    let D = mul-pos (down_pos e) (pow_pos 28) in
    let lo = nudged_below a d (down_pos e) in
    let hi = nudged_above a d (down_pos e) (omega arith) in
    let N = 3 * 2 ^ 51 * (d * 2 ^ 28) - a * (2 ^ 28 + 1) in
    let z = 3 * 2 ^ 51 - n in
    let u = remains (a * (2 ^ 28 + 1)) (3 * 2 ^ 51 * (d * 2 ^ 28)) (under a d n lo hi (down_pos e) h) in
    let w : z + n ≡ 3 * 2 ^ 51 = omega arith in
    lowest_of (fin true m e) N (d * 2 ^ 28) z
    (sum_negative (mul binary64 (fin true m e) nudge) (a * (2 ^ 28 + 1)) (d * 2 ^ 28) N D (product true m e l (down_within true m e f)) u.0 u.1)
    (negative_below a d n lo hi N z u.0 w) (negative_above a d n lo hi N z u.0 w) (omega arith) (omega arith) (low_bits_negative n h)
