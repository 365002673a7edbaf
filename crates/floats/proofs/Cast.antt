-- A float rounded to a whole number in binary32, cast to 32 bits and held, is `round_sat`'s. Assumes nothing.
use mathlib.Core.Path.{◌≡◌, refl, sym, ap, ap₂, ◌∙◌}
use mathlib.Core.Bool.{Bool, true, false, cond, ◌&&◌}
use Prim.Native.Nat.{ℕ, zero, suc, ◌+◌, ◌-◌, ◌*◌, ◌/◌, ◌%◌, ◌^◌, ◌≤◌, ◌<◌, min}
use native.Mathlib.Nat.{le_trans, mul-one, mul_assoc, mul_comm, mul-div_cancel}
use native.Mathlib.Omega.{arith}
use lib.Dec.{T, eqb, ltb, leb, ltb→lt}
use lib.IntN.{ℤ, pos, negsuc, neg_ℤ}
use lib.Pow.{pow-add, pow_pos}
use lib.Ieee.{Float, nan, inf, fin, binary32, up, down, round, to_signed, fits}
use lib.Ieee.Fits.{down_pos, and_r}
use lib.Ieee.Exact.{HasValue, round_exact}
use lib.Ieee.Back.{round_whole}
use Rattle.std.specs.Float.{float_round, round_with, ratio_round_half_up}
use Rattle.std.specs.Int.{int_max, int_min}
use Rattle.std.proofs.lemmas.Int.{ints, clamps}
use Rattle.floats.proofs.HalfUp.{half_up_is, half_up-one, half_up-le}
use Rattle.floats.proofs.Held.{significand}
use Rattle.floats.specs.Rounding.{half_up, round_sat}

-- what has a whole number's value casts to it
cast_is : (x : Float) (s : Bool) (k : ℕ) → HasValue x s k 1 → to_signed 31 x ≡ cond s (neg_ℤ (pos (min k (2 ^ 31)))) (pos (min k (2 ^ 31 - 1)))
unfolding to_signed
cast_is nan s k v = absurd v
cast_is (inf t) s k v = absurd v
cast_is (fin t m e) s k v = rw (v.0, ap (λ (x : ℕ). x / down e) (sym (mul-one (m * up e)) ∙ v.1) ∙ mul-div_cancel k (down_pos e)) refl

below_top : (s : Bool) (m : ℕ) (e : ℤ) → T (fits binary32 (fin s m e)) → m * up e < 2 ^ 128 * down e
unfolding fits
below_top s zero e f = omega (arith, down_pos e)
below_top s (suc m) e f = ltb→lt (suc m * up e) (2 ^ 128 * down e) (and_r (eqb (suc m % 2) 1 && ltb (suc m) (2 ^ 24) && leb (down e) (2 ^ 149)) (ltb (suc m * up e) (2 ^ 128 * down e)) f)

-- the whole number is a binary32
exact : (s : Bool) (m : ℕ) (e : ℤ) → T (fits binary32 (fin s m e)) → HasValue (round binary32 s (half_up (m * up e) (down e)) 1) s (half_up (m * up e) (down e)) 1
exact s m (pos k) f =
    let e : m * 2 ^ (k + 149) ≡ m * 2 ^ k * 2 ^ 149 = ap (λ (x : ℕ). m * x) (pow-add 2 k 149) ∙ sym (mul_assoc m (2 ^ k) (2 ^ 149)) in
    rw half_up-one
    (round_exact binary32 s (m * 2 ^ k) 1 m (k + 149) (omega arith) (significand s m (pos k) f) (omega (arith, e, below_top s m (pos k) f)) (omega (arith, e)))
exact s m (negsuc k) f = round_whole binary32 s (half_up (m * 1) (2 ^ suc k)) (le_trans (half_up-le (m * 1) (2 ^ suc k) (omega (arith, pow_pos k))) (omega (arith, significand s m (negsuc k) f)))

held_cast : (s : Bool) (n low high : ℕ) → low ≤ 33554432 → high ≤ 33554432
    → int_max (neg_ℤ (pos low)) (int_min (cond s (neg_ℤ (pos (min n (2 ^ 31)))) (pos (min n (2 ^ 31 - 1)))) (pos high)) ≡ cond s (neg_ℤ (pos (min n low))) (pos (min n high))
held_cast true n low high l h = omega (arith, ints, clamps)
held_cast false n low high l h = omega (arith, ints, clamps)

module _ (low high : ℕ) (l : low ≤ 33554432) (h : high ≤ 33554432) where
  of_value : (s : Bool) (m : ℕ) (e : ℤ) → T (fits binary32 (fin s m e))
      → int_max (neg_ℤ (pos low)) (int_min (to_signed 31 (round binary32 s (ratio_round_half_up (m * up e) (down e)) 1)) (pos high)) ≡ round_sat low high (fin s m e)
  unfolding round_sat
  of_value s m e f =
      let n = half_up (m * up e) (down e) in
      let k : ratio_round_half_up (m * up e) (down e) ≡ n = ap₂ (λ (x y : ℕ). (x + down e) / y) (mul_comm 2 (m * up e)) (mul_comm 2 (down e)) ∙ sym (half_up_is (m * up e) (down e) (down_pos e)) in
      rw (k, cast_is (round binary32 s n 1) s n (exact s m e f)) (held_cast s n low high l h)

  pub held_round : (x : Float) → T (fits binary32 x) → int_max (neg_ℤ (pos low)) (int_min (to_signed 31 (float_round binary32 x)) (pos high)) ≡ round_sat low high x
  unfolding round_with to_signed round_sat
  held_round nan f = omega (arith, ints, clamps)
  held_round (inf true) f = omega (arith, ints, clamps)
  held_round (inf false) f = omega (arith, ints, clamps)
  held_round (fin true m e) f = of_value true m e f
  held_round (fin false m e) f = of_value false m e f
