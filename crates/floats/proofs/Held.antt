-- A float held where it still rounds to the limits of the sample range rounds to the same sample, and is another float exactly where the
-- sample is held back. Assumes nothing.
use mathlib.Core.Path.{◌≡◌, refl, sym, ap, ◌∙◌, subst}
use mathlib.Core.Logic.{◌⊎◌, inl, inr}
use mathlib.Core.Bool.{Bool, true, false, cond, ◌&&◌, ◌||◌}
use Prim.Native.Nat.{ℕ, zero, suc, ◌+◌, ◌-◌, ◌*◌, ◌%◌, ◌^◌, ◌≤◌, ◌<◌, min}
use native.Mathlib.Nat.{le_trans, le_of_lt, le_of_suc-le-suc, mul-one, mul_assoc, mul_comm, mul-le-mul_left, mul-le-mul_right, lt_of_mul-lt-mul_right, le-div_iff_mul-le, div-lt_iff_lt-mul}
use native.Mathlib.Omega.{arith}
use borrow.Author.Tests.{ltb-true, ltb-false, lt-ltb, le-ltb, ne_eqb, eq-eqb}
use lib.Dec.{T, ltb, eqb, leb, ltb→lt}
use lib.IntN.{ℤ, pos, negsuc, neg_ℤ}
use lib.Pow.{pow-add, pow_mono}
use lib.Ieee.{Float, nan, inf, fin, binary32, up, down, lt, eq, ne, fits}
use lib.Ieee.Fits.{down_pos, and_l, and_r}
use Rattle.pcm.specs.Samples.{outside, outside16}
use Rattle.pcm.specs.laws.Tests.{lt_or_ge}
use Rattle.floats.proofs.HalfUp.{half_up_is}
use Rattle.floats.specs.Rounding.{half_up, magnitude, round_sat, rounded16, clipped, held_float, at_most}

-- ---- n / d against k and a half
module _ (k n d : ℕ) (D : 0 < d) where
  twice : 0 < d * 2
  twice = omega arith

  half_up_within : n * 2 < (k * 2 + 1) * d → half_up n d ≤ k
  half_up_within h = rw (half_up_is n d D) (le_of_suc-le-suc ((div-lt_iff_lt-mul {k = d * 2} {x = n * 2 + d} {y = suc k} twice).1 (omega arith)))

  half_up_past : (k * 2 + 1) * d ≤ n * 2 → k < half_up n d
  half_up_past h = rw (half_up_is n d D) ((le-div_iff_mul-le {k = d * 2} {x = suc k} {y = n * 2 + d} twice).1 (omega arith))

-- ---- a binary32 past K / 2 ^ j, at which the step is 1 / 2 ^ j, is at least the next one
finer : (K m D P : ℕ) → m < 16777216 → 16777216 ≤ K * 2 → P * 2 ≤ D → K * D < m * P → ⊥
finer K m D P s t q h = omega (arith, mul-le-mul_left K q, mul-le-mul_right P t, mul-le-mul_right P (le_of_lt s))

coarser : (K m D R : ℕ) → K * D < m * (D * R) → suc K * D ≤ m * (D * R)
coarser K m D R h =
    let e : m * (D * R) ≡ m * R * D = simp (mul_assoc, mul_comm) in
    let l : K * D < m * R * D = omega arith in
    omega (arith, mul-le-mul_right D (lt_of_mul-lt-mul_right D l))

next_float : (j K m : ℕ) (e : ℤ) → m < 16777216 → 16777216 ≤ K * 2 → K * down e < m * up e * 2 ^ j → suc K * down e ≤ m * up e * 2 ^ j
next_float j K m (pos k) s t h = omega arith
next_float j K m (negsuc k) s t h = go (lt_or_ge j (suc k))
  where
    go : (j < suc k) ⊎ (suc k ≤ j) → suc K * 2 ^ suc k ≤ m * 1 * 2 ^ j
    go (inl l) = absurd (finer K m (2 ^ suc k) (2 ^ j) s t (subst (λ (x : ℕ). x ≤ 2 ^ suc k) (pow-add 2 j 1) (pow_mono (next j k l))) (subst (λ (x : ℕ). K * 2 ^ suc k < x * 2 ^ j) (mul-one m) h))
      where
        next : (j k : ℕ) → j < suc k → j + 1 ≤ suc k
        next j k l = omega arith
    go (inr l) =
        let e : 2 ^ j ≡ 2 ^ suc k * 2 ^ (j - suc k) = ap (λ (x : ℕ). 2 ^ x) (whole j (suc k) l) ∙ pow-add 2 (suc k) (j - suc k) in
        let u : m * 1 * 2 ^ j ≡ m * (2 ^ suc k * 2 ^ (j - suc k)) = ap (λ (x : ℕ). x * 2 ^ j) (mul-one m) ∙ ap (λ (x : ℕ). m * x) e in
        subst (λ (x : ℕ). suc K * 2 ^ suc k ≤ x) (sym u) (coarser K m (2 ^ suc k) (2 ^ (j - suc k)) (subst (λ (x : ℕ). K * 2 ^ suc k < x) u h))
      where
        whole : (a b : ℕ) → b ≤ a → a ≡ b + (a - b)
        whole a b l = omega arith

pub significand : (s : Bool) (m : ℕ) (e : ℤ) → T (fits binary32 (fin s m e)) → m < 16777216
unfolding fits
significand s zero e f = omega arith
significand s (suc m) e f =
    let a = eqb (suc m % 2) 1 in
    let b = ltb (suc m) (2 ^ 24) in
    let c = leb (down e) (2 ^ 149) in
    ltb→lt (suc m) 16777216 (and_r a b (and_l (a && b) c (and_l (a && b && c) (ltb (suc m * up e) (2 ^ 128 * down e)) f)))

-- ---- what is held
-- h is x, held
pub record Held (x h : Float) : Type 0 where
  pub small : magnitude h ≤ 32768
  pub rounds : round_sat 33554432 33554432 h ≡ rounded16 x
  pub differs : ne h x ≡ clipped x

by_side : (s : Bool) (a b : ℕ) → a ≡ min b (cond s 32768 32767) → cond s (neg_ℤ (pos (min a 33554432))) (pos (min a 33554432)) ≡ cond s (neg_ℤ (pos (min b 32768))) (pos (min b 32767))
by_side true a b h = let e : min a 33554432 ≡ min b 32768 = omega arith in ap (λ (k : ℕ). neg_ℤ (pos k)) e
by_side false a b h = let e : min a 33554432 ≡ min b 32767 = omega arith in ap pos e

outside_side : (s : Bool) (n : ℕ) → outside16 (cond s (neg_ℤ (pos n)) (pos n)) ≡ ltb (cond s 32768 32767) n
unfolding outside
outside_side true zero = refl
outside_side true (suc n) = go (lt_or_ge 32767 n)
  where
    go : (32767 < n) ⊎ (n ≤ 32767) → (ltb 32767 n || false) ≡ ltb 32768 (suc n)
    go (inl l) = rw (lt-ltb 32767 n l, lt-ltb 32768 (suc n) (omega arith)) refl
    go (inr l) = rw (le-ltb 32767 n l, le-ltb 32768 (suc n) (omega arith)) refl
outside_side false n = refl

side_in : (s : Bool) → cond s 32768 32767 ≤ 32768
side_in true = omega arith
side_in false = omega arith

equals_itself : (s : Bool) (m : ℕ) (e : ℤ) → ne (fin s m e) (fin s m e) ≡ false
unfolding ne eq
equals_itself true m e = rw (eq-eqb (m * up e * down e) (m * up e * down e) refl) refl
equals_itself false m e = rw (eq-eqb (m * up e * down e) (m * up e * down e) refl) refl

-- one side of the sample range: L is its limit, and K / 2 ^ (i + 1) the last binary32 that rounds to it, so that the next one is L and a half
module _ (s : Bool) (K i m : ℕ) (e : ℤ) (f : T (fits binary32 (fin s m e))) (step : 16777216 ≤ K * 2) where
  abbrev L : ℕ
  L = cond s 32768 32767

  module _ (last : half_up (K * 1) (2 ^ suc i) ≡ L) (past : suc K * down e ≤ m * up e * 2 ^ suc i → (L * 2 + 1) * down e ≤ m * up e * 2) (within : m * up e * 2 ^ suc i ≤ K * down e → m * up e * 2 < (L * 2 + 1) * down e) where
    held_to : (t : Bool) → ltb (K * 1 * down e) (m * up e * 2 ^ suc i) ≡ t → Held (fin s m e) (cond t (fin s K (negsuc i)) (fin s m e))
    unfolding magnitude round_sat clipped ne eq
    held_to true h =
        let l : K * down e < m * up e * 2 ^ suc i = omega (arith, ltb-true (K * 1 * down e) (m * up e * 2 ^ suc i) h) in
        let g : L < half_up (m * up e) (down e) = half_up_past L (m * up e) (down e) (down_pos e) (past (next_float (suc i) K m e (significand s m e f) step l)) in
        record {
          small = rw last (side_in s);
          rounds = by_side s (half_up (K * 1) (2 ^ suc i)) (half_up (m * up e) (down e)) (last ∙ to_limit L (half_up (m * up e) (down e)) g);
          differs = rw (ne_eqb (K * 1 * down e) (m * up e * 2 ^ suc i) (λ q. omega arith), outside_side s (half_up (m * up e) (down e)), lt-ltb L (half_up (m * up e) (down e)) g) refl;
        }
      where
        to_limit : (l b : ℕ) → l < b → l ≡ min b l
        to_limit l b h = omega arith
    held_to false h =
        let l : m * up e * 2 ^ suc i ≤ K * down e = omega (arith, ltb-false (K * 1 * down e) (m * up e * 2 ^ suc i) h) in
        let g : half_up (m * up e) (down e) ≤ L = half_up_within L (m * up e) (down e) (down_pos e) (within l) in
        record {
          small = le_trans g (side_in s);
          rounds = by_side s (half_up (m * up e) (down e)) (half_up (m * up e) (down e)) (as_it_is L (half_up (m * up e) (down e)) g);
          differs = equals_itself s m e ∙ sym (outside_side s (half_up (m * up e) (down e)) ∙ le-ltb L (half_up (m * up e) (down e)) g);
        }
      where
        as_it_is : (l b : ℕ) → b ≤ l → b ≡ min b l
        as_it_is l b h = omega arith

low_rounds : half_up 8388735 256 ≡ 32768
unfolding half_up
low_rounds = refl

high_rounds : half_up 16776959 512 ≡ 32767
unfolding half_up
high_rounds = refl

pub held : (x : Float) → T (fits binary32 x) → Held x (held_float x)
unfolding held_float magnitude round_sat clipped lt eq ne
held nan f = record { small = omega arith; rounds = refl; differs = refl }
held (inf true) f = record { small = rw low_rounds (omega arith); rounds = rw low_rounds refl; differs = refl }
held (inf false) f = record { small = rw high_rounds (omega arith); rounds = rw high_rounds refl; differs = refl }
held (fin true m e) f = below_high (ltb (8388735 * down e) (m * up e * 256)) (held_to true 8388735 7 m e f (omega arith) low_rounds (λ h. omega arith) (λ h. omega (arith, down_pos e)) _ refl)
  where
    below_high : (t : Bool) → Held (fin true m e) (cond t (fin true 8388735 (negsuc 7)) (fin true m e)) → Held (fin true m e) (at_most (fin false 16776959 (negsuc 8)) (cond t (fin true 8388735 (negsuc 7)) (fin true m e)))
    below_high true r = r
    below_high false r = r
held (fin false m e) f = held_to false 16776959 8 m e f (omega arith) high_rounds (λ h. omega arith) (λ h. omega (arith, down_pos e)) (ltb (16776959 * down e) (m * up e * 512)) refl
