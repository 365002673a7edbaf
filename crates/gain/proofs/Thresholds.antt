-- A sample is held back exactly where it lies outside two thresholds, found by division. Assumes nothing.
use mathlib.Core.Path.{◌≡◌, sym, ap₂, ◌∙◌, subst}
use mathlib.Core.Bool.{true, false}
use mathlib.Core.List.{List}
use Prim.Native.Nat.{ℕ, zero, suc, min, ◌+◌, ◌-◌, ◌*◌, ◌/◌, ◌≤◌, ◌<◌}
use native.Mathlib.Nat.{le_trans, div-lt_iff_lt-mul, mul-le-mul_right}
use native.Mathlib.Decide.{dec_lt}
use native.Mathlib.Omega.{arith}
use borrow.Author.Tests.{le-ltb, ltb-true, ltb-false}
use lib.Dec.{T, ltb}
use lib.IntN.{ℤ, pos, negsuc, nat_abs, sub_ℕ, ◌+ℤ◌}
use lib.Signed.{lt_z}
use mir.Syntax.{w16}
use mir.Val.{SFits}
use Rattle.pcm.specs.Integers.{−, floor_div}
use Rattle.pcm.specs.laws.Integers.{sub_lt, sub_ge}
use Rattle.pcm.specs.Samples.{Samples, outside, outside16}
use Rattle.counting.specs.Counting.{count_of}
use Rattle.counting.specs.laws.Counting.{count_same}
use Rattle.counting.specs.laws.Limits.{same_test, outside-pos, outside-neg}
use Rattle.gain.specs.Clipping.{clipped_by, clipped_in}
use Rattle.gain.specs.laws.Clipping.{clipped_none}

-- ---- a product of n, and one of -n, that are held back
above : (n : ℕ) → outside16 (floor_div (pos n +ℤ pos 16384) 32768) ≡ ltb 1073725439 n
above n = outside-pos 32768 32767 ((n + 16384) / 32768) ∙ same_test 32767 ((n + 16384) / 32768) 1073725439 n (λ h. omega arith) (λ h. omega arith)

below : (n : ℕ) → outside16 (floor_div (− n +ℤ pos 16384) 32768) ≡ ltb 1073758208 n
below zero = outside-pos 32768 32767 ((0 + 16384) / 32768)
below (suc k) = go (dec_lt 16384 (suc k))
  where
    go : Dec (16384 < suc k) → outside16 (floor_div (sub_ℕ 16384 (suc k)) 32768) ≡ ltb 1073758208 (suc k)
    go (yes l) = rw (sub_lt 16384 (suc k) l) (outside-neg 32768 32767 ((suc k - suc 16384) / 32768)
        ∙ same_test 32768 (suc ((suc k - suc 16384) / 32768)) 1073758208 (suc k) (λ h. omega arith) (λ h. omega arith))
    go (no l) =
        let g : suc k ≤ 16384 = omega arith in
        rw (sub_ge 16384 (suc k) g) (outside-pos 32768 32767 ((16384 - suc k) / 32768)
        ∙ same_test 32767 ((16384 - suc k) / 32768) 1073758208 (suc k) (λ h. omega arith) (λ h. omega arith))

-- the threshold of a product with p that is above b, also where it is held to the largest factor m
threshold : (b p a : ℕ) → 0 < p → ltb b (a * p) ≡ ltb (b / p) a
threshold b p a h = same_test b (a * p) (b / p) a (λ l. (div-lt_iff_lt-mul h).1 l) (λ l. (div-lt_iff_lt-mul h).0 l)

threshold_held : (b p m a : ℕ) → 0 < p → a ≤ m → ltb b (a * p) ≡ ltb (min (b / p) m) a
threshold_held b p m a h k = threshold b p a h ∙ same_test (b / p) a (min (b / p) m) a (λ l. omega arith) (λ l. omega arith)

-- ---- by a factor q of magnitude p, a sample is held back where its magnitude times p is past `down` below zero, past `up` from zero on
record Tests (q : ℤ) (p down up : ℕ) : Type 0 where
  from : (a : ℕ) → clipped_by q (pos a) ≡ ltb up (a * p)
  under : (a : ℕ) → clipped_by q (negsuc a) ≡ ltb down (suc a * p)

positive : (p : ℕ) → Tests (pos p) p 1073758208 1073725439
unfolding clipped_by
positive p = record { from = λ a. above (a * p); under = λ a. below (suc a * p) }

negative : (m : ℕ) → Tests (negsuc m) (suc m) 1073725439 1073758208
unfolding clipped_by
negative m = record { from = λ a. below (a * suc m); under = λ a. above (suc a * suc m) }

module _ {q : ℤ} {p down up : ℕ} (t : Tests q p down up) where
  -- so the thresholds are the quotients
  clips : 0 < p → (x : ℤ) → SFits w16 x → clipped_by q x ≡ outside (− (down / p)) (pos (min (up / p) 32767)) x
  clips h (pos a) f = t.from a ∙ threshold_held up p 32767 a h (omega (arith, f.sfits)) ∙ sym (outside-pos (down / p) (min (up / p) 32767) a)
  clips h (negsuc a) f = t.under a ∙ threshold down p (suc a) h ∙ sym (outside-neg (down / p) (min (up / p) 32767) a)

  -- and a small factor holds nothing back
  never : 32768 * p ≤ down → 32767 * p ≤ up → (x : ℤ) → SFits w16 x → clipped_by q x ≡ false
  never h k (pos a) f = let l : a ≤ 32767 = omega (arith, f.sfits) in t.from a ∙ le-ltb up (a * p) (le_trans (mul-le-mul_right p l) k)
  never h k (negsuc a) f = t.under a ∙ le-ltb down (suc a * p) (le_trans (mul-le-mul_right p f.sfits) h)

  counted : {lo hi : ℤ} → 0 < p → lo ≡ − (down / p) → hi ≡ pos (min (up / p) 32767) → (xs : List ℤ) → Samples xs → count_of (outside lo hi) xs ≡ clipped_in q xs
  unfolding clipped_in
  counted s l h xs f = ap₂ (λ a b. count_of (outside a b) xs) l h ∙ sym (count_same (clipped_by q) _ (clips s) xs f)

-- ---- the count of a block
pub count_above : (q : ℤ) {lo hi : ℤ} → lt_z (pos 32768) q ≡ true → lo ≡ − (1073758208 / nat_abs q) → hi ≡ pos (min (1073725439 / nat_abs q) 32767) → (xs : List ℤ) → Samples xs → count_of (outside lo hi) xs ≡ clipped_in q xs
count_above (pos n) e l h xs f = counted (positive n) (omega (arith, ltb-true 32768 n e)) l h xs f
count_above (negsuc n) e l h xs f = absurd (subst T (sym e) tt)

pub count_below : (q : ℤ) {lo hi : ℤ} → lt_z q (negsuc 32766) ≡ true → lo ≡ − (1073725439 / nat_abs q) → hi ≡ pos (min (1073758208 / nat_abs q) 32767) → (xs : List ℤ) → Samples xs → count_of (outside lo hi) xs ≡ clipped_in q xs
count_below (pos n) e l h xs f = absurd (subst T (sym e) tt)
count_below (negsuc n) e l h xs f = counted (negative n) (omega arith) l h xs f

pub count_within : (q : ℤ) → lt_z (pos 32768) q ≡ false → lt_z q (negsuc 32766) ≡ false → (xs : List ℤ) → Samples xs → 0 ≡ clipped_in q xs
count_within (pos n) e k xs f = let l : n ≤ 32768 = ltb-false 32768 n e in sym (clipped_none (pos n) (never (positive n) (omega arith) (omega arith)) xs f)
count_within (negsuc n) e k xs f = let l : n ≤ 32766 = ltb-false 32766 n k in sym (clipped_none (negsuc n) (never (negative n) (omega arith) (omega arith)) xs f)
