-- A sum is held back where one sample leaves no room for the other. Assumes nothing.
use mathlib.Core.Path.{◌≡◌, sym, ◌∙◌, subst}
use mathlib.Core.Bool.{true, false}
use Prim.Native.Nat.{ℕ, suc, ◌+◌, ◌-◌, ◌≤◌, ◌<◌}
use native.Mathlib.Decide.{dec_lt}
use native.Mathlib.Omega.{arith}
use borrow.Author.Tests.{le-ltb, lt-ltb}
use lib.Dec.{T, lit<}
use lib.IntN.{ℤ, pos, negsuc, sub_ℕ, ◌+ℤ◌, ◌-ℤ◌}
use lib.Signed.{lt_z}
use mir.Syntax.{w16, w32}
use mir.Val.{SFits}
use Rattle.pcm.specs.laws.Integers.{sub_within, fits_within, within_fits, pos_sub_pos, sub_lt, sub_ge}
use Rattle.pcm.specs.Samples.{outside16}
use Rattle.counting.specs.laws.Limits.{same_test, outside-pos, outside-neg, sample_inside}

-- ---- the room that a sample leaves
pub room_fits : (z b : ℤ) → SFits w16 z → SFits w16 b → SFits w32 (z -ℤ b)
room_fits z b f g = fits_within w32 (z -ℤ b) (sub_within z b (within_fits z f) (within_fits b g)) (lit< tt)

-- samples of different signs have a sum within the range
mixed_signs : (m n : ℕ) → m ≤ 32767 → n ≤ 32768 → outside16 (sub_ℕ m n) ≡ false
mixed_signs m n h k = go (dec_lt m n)
  where
    go : Dec (m < n) → outside16 (sub_ℕ m n) ≡ false
    go (yes l) = rw (sub_lt m n l) (sample_inside (negsuc (n - suc m)) (record { sfits = omega arith }))
    go (no l) = let g : n ≤ m = omega arith in rw (sub_ge m n g) (sample_inside (pos (m - n)) (record { sfits = omega arith }))

below_room : (a : ℤ) (n : ℕ) → SFits w16 a → n < 32768 → lt_z a (sub_ℕ (suc n) 32768) ≡ outside16 (a +ℤ negsuc n)
below_room a n f h = go a f (dec_lt (suc n) 32768)
  where
    go : (z : ℤ) → SFits w16 z → Dec (suc n < 32768) → lt_z z (sub_ℕ (suc n) 32768) ≡ outside16 (z +ℤ negsuc n)
    go (pos m) g (yes l) = rw (sub_lt (suc n) 32768 l) (sym (mixed_signs m (suc n) (omega (arith, g.sfits)) (omega arith)))
    go (pos m) g (no l) =
        let k : 32768 ≤ suc n = omega arith in
        rw (sub_ge (suc n) 32768 k) (le-ltb m (suc n - 32768) (omega arith) ∙ sym (mixed_signs m (suc n) (omega (arith, g.sfits)) (omega arith)))
    go (negsuc m) g (yes l) =
        rw (sub_lt (suc n) 32768 l) (same_test (32768 - suc (suc n)) m 32768 (suc (suc (m + n))) (λ k. omega arith) (λ k. omega arith) ∙ sym (outside-neg 32768 32767 (suc (m + n))))
    go (negsuc m) g (no l) =
        let k : 32768 ≤ suc n = omega arith in
        rw (sub_ge (suc n) 32768 k) (sym (outside-neg 32768 32767 (suc (m + n)) ∙ lt-ltb 32768 (suc (suc (m + n))) (omega arith)))

pub room_below : (a b : ℤ) → SFits w16 a → SFits w16 b → lt_z b (pos 0) ≡ true → lt_z a (negsuc 32767 -ℤ b) ≡ outside16 (a +ℤ b)
room_below a (pos n) f g e = absurd (subst T (sym (sym (le-ltb n 0 (omega arith)) ∙ e)) tt)
room_below a (negsuc n) f g e = below_room a n f g.sfits

pub room_above : (a b : ℤ) → SFits w16 a → SFits w16 b → lt_z b (pos 0) ≡ false → lt_z (pos 32767 -ℤ b) a ≡ outside16 (a +ℤ b)
room_above a (negsuc n) f g e = absurd (subst T e tt)
room_above a (pos n) f g e = go a f
  where
    h : n ≤ 32767
    h = omega (arith, g.sfits)

    go : (z : ℤ) → SFits w16 z → lt_z (pos 32767 -ℤ pos n) z ≡ outside16 (z +ℤ pos n)
    go (pos m) k = rw (pos_sub_pos 32767 n, sub_ge 32767 n h) (same_test (32767 - n) m 32767 (m + n) (λ l. omega arith) (λ l. omega arith) ∙ sym (outside-pos 32768 32767 (m + n)))
    go (negsuc m) k = rw (pos_sub_pos 32767 n, sub_ge 32767 n h) (sym (mixed_signs n (suc m) h k.sfits))
