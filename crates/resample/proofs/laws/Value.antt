-- The value between two samples lies between them, is a sample, and is near the line. Assumes nothing.
use Rattle.std.specs.Prelude.{◌≡◌, refl, ◌⊎◌, ℕ, zero, suc, ◌+◌, ◌-◌, ◌*◌, ◌/◌, ◌≤◌, ◌<◌, ℤ, pos, negsuc, neg_ℤ, nat_abs, ◌+ℤ◌, ◌-ℤ◌, ◌*ℤ◌}
use Rattle.std.proofs.Common.{sym, ap, ◌∙◌, inl, inr, le_of_lt, div-lt_iff_lt-mul, mul-le-mul_right, mul-le-mul_left, zero-mul, div-mul-le_self, arith, leb→le, SFits}
use Rattle.std.proofs.Math.Nat.{lt-div-mul-add}
use Rattle.std.proofs.Math.Decide.{dec_lt}
use Rattle.std.proofs.Math.IntN.{sub_ℕ, +ℤ_assoc, +ℤ_comm, neg_ℤ-neg_ℤ}
use Rattle.std.specs.Int.Signed.{mag}
use Rattle.std.specs.Int.{w16}
use Rattle.pcm.specs.Integers.{floor_div}
use Rattle.pcm.specs.laws.Integers.{sub_lt, sub_ge, +ℤ-*ℤ, add_sub_add, add_sub_self, self_sub_add, pos_sub_pos, dist_le, apart, add_mono, add_le}
use Rattle.resample.specs.Value.{frac, interpolated, value, Ordered, Between, bound, NearLine}

-- ---- the step up or down from a, by the distance d of b
abbrev up : ℕ → ℕ → ℕ
up d f = (d * f + 2147483648) / 4294967296

abbrev down : ℕ → ℕ → ℕ
down d f = (d * f + 2147483647) / 4294967296

floor_neg : (m : ℕ) → floor_div (neg_ℤ (pos m) +ℤ pos 2147483648) 4294967296 ≡ neg_ℤ (pos ((m + 2147483647) / 4294967296))
floor_neg zero = refl
floor_neg (suc m) = go (dec_lt 2147483648 (suc m))
  where
    zero_is : (k : ℕ) → k ≡ zero → neg_ℤ (pos k) ≡ pos zero
    zero_is k e = rw e

    suc_is : (k n : ℕ) → k ≡ suc n → negsuc n ≡ neg_ℤ (pos k)
    suc_is k n e = rw e

    go : Dec (2147483648 < suc m) → floor_div (sub_ℕ 2147483648 (suc m)) 4294967296 ≡ neg_ℤ (pos ((suc m + 2147483647) / 4294967296))
    go (yes h) = rw (sub_lt 2147483648 (suc m) h) (suc_is ((suc m + 2147483647) / 4294967296) ((suc m - suc 2147483648) / 4294967296) (omega arith))
    go (no h) =
        let g : suc m ≤ 2147483648 = omega arith in
        let z : (2147483648 - suc m) / 4294967296 ≡ zero = omega arith in
        rw (sub_ge 2147483648 (suc m) g) (ap pos z ∙ sym (zero_is ((suc m + 2147483647) / 4294967296) (omega arith)))

neg_pos_mul : (d f : ℕ) → neg_ℤ (pos d) *ℤ pos f ≡ neg_ℤ (pos (d * f))
neg_pos_mul zero f = ap pos (zero-mul f) ∙ ap (λ (n : ℕ). neg_ℤ (pos n)) (sym (zero-mul f))
neg_pos_mul (suc d) f = refl

rising : (a : ℤ) (d f : ℕ) → interpolated a (a +ℤ pos d) f ≡ a +ℤ pos (up d f)
unfolding interpolated
rising a d f = rw (add_sub_self a (pos d))

falling : (b : ℤ) (d f : ℕ) → interpolated (b +ℤ pos d) b f ≡ (b +ℤ pos d) +ℤ neg_ℤ (pos (down d f))
unfolding interpolated
falling b d f = rw (self_sub_add b (pos d), neg_pos_mul d f) (ap (λ z. (b +ℤ pos d) +ℤ z) (floor_neg (d * f)))

-- ---- between its neighbours
module _ (f : ℕ) (h : f < 4294967296) where
  up_most : (d : ℕ) → up d f ≤ d
  up_most d = omega (arith, mul-le-mul_left d (le_of_lt h))

  down_most : (d : ℕ) → down d f ≤ d
  down_most d = omega (arith, mul-le-mul_left d (le_of_lt h))

  back : (b : ℤ) (d e : ℕ) → e ≤ d → (b +ℤ pos d) +ℤ neg_ℤ (pos e) ≡ b +ℤ pos (d - e)
  back b d e k = +ℤ_assoc b (pos d) (neg_ℤ (pos e)) ∙ ap (λ z. b +ℤ z) (pos_sub_pos d e ∙ sub_ge d e k)

  pub interpolated_between : (a b : ℤ) → Between a b (interpolated a b f)
  interpolated_between a b = pick (apart a b)
    where
      pick : ((d : ℕ) × (b ≡ a +ℤ pos d)) ⊎ ((d : ℕ) × (a ≡ b +ℤ pos (suc d))) → Between a b (interpolated a b f)
      pick (inl (d, e)) = inl (rw (e, rising a d f) (record { below = add_le a (up d f); above = add_mono a (up d f) d (up_most d) }))
      pick (inr (d, e)) =
          inr (rw (e, falling b (suc d) f, back b (suc d) (down (suc d) f) (down_most (suc d)))
          (record { below = add_le b (suc d - down (suc d) f); above = add_mono b (suc d - down (suc d) f) (suc d) (omega arith) }))

mag_between : (H : ℕ) (a v b : ℤ) → Ordered a v b → mag a < H → mag b < H → mag v < H
mag_between H a (pos n) (pos m) k p q = omega (arith, leb→le n m k.above.le)
mag_between H a (pos n) (negsuc m) k p q = absurd k.above.le
mag_between H (pos l) (negsuc n) b k p q = absurd k.below.le
mag_between H (negsuc l) (negsuc n) b k p q = omega (arith, leb→le n l k.below.le)

-- between two samples lies a sample
pub interpolated_fits : (a b : ℤ) (f : ℕ) → f < 4294967296 → SFits w16 a → SFits w16 b → SFits w16 (interpolated a b f)
interpolated_fits a b f h p q = pick (interpolated_between f h a b)
  where
    pick : Between a b (interpolated a b f) → SFits w16 (interpolated a b f)
    pick (inl k) = record { sfits = mag_between 32768 a (interpolated a b f) b k p.sfits q.sfits }
    pick (inr k) = record { sfits = mag_between 32768 b (interpolated a b f) a k q.sfits p.sfits }

dist : (x y B : ℕ) → x ≤ y + B → y ≤ x + B → nat_abs (sub_ℕ x y) ≤ B
dist x y B h k = omega (arith, dist_le x y 1 B (omega arith) (omega arith))

-- two samples are at most 65,535 apart
pub samples_apart : (a b : ℤ) → SFits w16 a → SFits w16 b → nat_abs (b -ℤ a) ≤ 65535
samples_apart (pos n) (pos m) p q = rw (pos_sub_pos m n) (dist m n 65535 (omega (arith, q.sfits)) (omega (arith, p.sfits)))
samples_apart (negsuc n) (pos m) p q = omega (arith, p.sfits, q.sfits)
samples_apart (pos zero) (negsuc m) p q = dist zero (suc m) 65535 (omega arith) (omega (arith, q.sfits))
samples_apart (pos (suc n)) (negsuc m) p q = omega (arith, p.sfits, q.sfits)
samples_apart (negsuc n) (negsuc m) p q = dist (suc n) (suc m) 65535 (omega (arith, p.sfits)) (omega (arith, q.sfits))

-- ---- near the line
module _ (o r : ℕ) (h : r < o) where
  pub frac_below : frac o r < 4294967296
  frac_below = let p : 0 < o = omega arith in (div-lt_iff_lt-mul p).1 (omega arith)

  near_up : (d e : ℕ) → d ≤ 65535 → e * 4294967296 ≤ d * frac o r + 2147483648 → (e * o) * 4294967296 ≤ (d * r) * 4294967296 + bound o
  near_up d e k l = omega (arith, mul-le-mul_right o l, mul-le-mul_right d (div-mul-le_self (r * 4294967296) o))

  near_down : (d e : ℕ) → d ≤ 65535 → d * frac o r ≤ e * 4294967296 + 2147483648 → (d * r) * 4294967296 ≤ (e * o) * 4294967296 + bound o
  near_down d e k l =
      let p : 0 < o = omega arith in
      omega (arith, mul-le-mul_right o l, mul-le-mul_right d (le_of_lt (lt-div-mul-add {a = r * 4294967296} p)), mul-le-mul_right o k)

  near_rising : (a : ℤ) (d : ℕ) → d ≤ 65535 → NearLine o a (a +ℤ pos d) r (value o a (a +ℤ pos d) r)
  near_rising a d k =
      let f : ℕ = frac o r in
      rw (rising a d f, add_sub_self a (pos d), +ℤ-*ℤ a (pos (up d f)) (pos o), add_sub_add (a *ℤ pos o), pos_sub_pos (up d f * o) (d * r))
      (dist_le (up d f * o) (d * r) 4294967296 (bound o) (near_up d (up d f) k (omega arith)) (near_down d (up d f) k (omega arith)))

  neg_sub_neg : (x y : ℕ) → neg_ℤ (pos x) -ℤ neg_ℤ (pos y) ≡ sub_ℕ y x
  neg_sub_neg x y = ap (λ z. neg_ℤ (pos x) +ℤ z) (neg_ℤ-neg_ℤ (pos y)) ∙ +ℤ_comm (neg_ℤ (pos x)) (pos y) ∙ pos_sub_pos y x

  near_falling : (b : ℤ) (d : ℕ) → d ≤ 65535 → NearLine o (b +ℤ pos d) b r (value o (b +ℤ pos d) b r)
  near_falling b d k =
      let f : ℕ = frac o r in
      rw (falling b d f, self_sub_add b (pos d), +ℤ-*ℤ (b +ℤ pos d) (neg_ℤ (pos (down d f))) (pos o), neg_pos_mul (down d f) o, neg_pos_mul d r, add_sub_add ((b +ℤ pos d) *ℤ pos o), neg_sub_neg (down d f * o) (d * r))
      (dist_le (d * r) (down d f * o) 4294967296 (bound o) (near_down d (down d f) k (omega arith)) (near_up d (down d f) k (omega arith)))

  pub value_near_line : (a b : ℤ) → nat_abs (b -ℤ a) ≤ 65535 → NearLine o a b r (value o a b r)
  value_near_line a b k = pick (apart a b) k
    where
      pick : ((d : ℕ) × (b ≡ a +ℤ pos d)) ⊎ ((d : ℕ) × (a ≡ b +ℤ pos (suc d))) → nat_abs (b -ℤ a) ≤ 65535 → NearLine o a b r (value o a b r)
      pick (inl (d, e)) m = rw e (near_rising a d (rw (e, add_sub_self a (pos d)) at m))
      pick (inr (d, e)) m = rw e (near_falling b (suc d) (rw (e, self_sub_add b (pos (suc d))) at m))
