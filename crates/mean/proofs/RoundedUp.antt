-- Half of the sum of two samples: rounded up, and one less where the sum is odd and that is odd too. Assumes nothing.
use mathlib.Core.Path.{◌≡◌, refl, sym, ap, ◌∙◌, subst}
use mathlib.Core.Bool.{Bool, true, false, not, ◌&&◌}
use Prim.Native.Nat.{ℕ, zero, suc, ◌+◌, ◌-◌, ◌/◌, ◌%◌, ◌≤◌, ◌<◌}
use native.Mathlib.Decide.{dec_lt}
use native.Mathlib.Omega.{arith}
use borrow.Author.Tests.{eqb-true}
use lib.Bits.{bit_and, bit_xor, and_mask, xor_add_and}
use lib.Dec.{eqb}
use lib.Ieee.Nearest.{closest}
use lib.IntN.{ℤ, pos, negsuc, nat_abs, sub_ℕ, ◌+ℤ◌, ◌-ℤ◌, +ℤ_one}
use mir.Syntax.{w16, w32}
use mir.Val.{SFits, of_z}
use mir.Facts.{sfits_lit, sfits_widen}
use Rattle.pcm.specs.Integers.{−, floor_div, nearest_div}
use Rattle.pcm.specs.laws.Integers.{sub_lt, sub_ge, pos_sub_pos}
use Rattle.pcm.specs.laws.Nearest.{by_parity, Nearest, closest_nearest}
use Rattle.pcm.specs.laws.Tests.{both, true_false}
use Rattle.pcm.specs.laws.Sums.{SumRange, sum_range, summed}
use Rattle.mean.specs.Mean.{mean}

-- ---- parity, by numbers and by bits
abbrev pub is_odd : ℕ → Bool
is_odd n = eqb (n % 2) 1

even_test : (n : ℕ) → not (eqb (n % 2) 0) ≡ is_odd n
even_test n = by_parity n (λ e. rw e) (λ e. rw e)

bits_parity : (z : ℤ) → SFits w16 z → of_z w16 z % 2 ≡ nat_abs z % 2
bits_parity (pos n) f = refl
bits_parity (negsuc n) f = omega (arith, f.sfits)

sub_parity : (a b : ℕ) → nat_abs (sub_ℕ a (suc b)) % 2 ≡ (a + suc b) % 2
sub_parity a b = go (dec_lt a (suc b))
  where
    go : Dec (a < suc b) → nat_abs (sub_ℕ a (suc b)) % 2 ≡ (a + suc b) % 2
    go (yes l) = rw (sub_lt a (suc b) l) (omega arith)
    go (no l) = let h : suc b ≤ a = omega arith in rw (sub_ge a (suc b) h) (omega arith)

sum_parity : (l r : ℤ) → nat_abs (l +ℤ r) % 2 ≡ (nat_abs l + nat_abs r) % 2
sum_parity (pos a) (pos b) = refl
sum_parity (pos a) (negsuc b) = sub_parity a b
sum_parity (negsuc a) (pos b) = sub_parity b a ∙ omega arith
sum_parity (negsuc a) (negsuc b) = omega arith

-- l ^ r ends as l + r does
pub last_bit_of_sum : (l r : ℤ) → SFits w16 l → SFits w16 r → not (eqb (bit_and (bit_xor (of_z w16 l) (of_z w16 r)) 1) 0) ≡ is_odd (nat_abs (l +ℤ r))
last_bit_of_sum l r f g =
    let e : bit_xor (of_z w16 l) (of_z w16 r) % 2 ≡ nat_abs (l +ℤ r) % 2 =
    omega (arith, xor_add_and (of_z w16 l) (of_z w16 r), bits_parity l f, bits_parity r g, sum_parity l r) in
    ap (λ (n : ℕ). not (eqb n 0)) (and_mask (bit_xor (of_z w16 l) (of_z w16 r)) 1 ∙ e) ∙ even_test (nat_abs (l +ℤ r))

-- of two neighbours the even one
same_even : (c q : ℕ) → c % 2 ≡ 0 → q % 2 ≡ 0 → c ≤ q + 1 → q ≤ c + 1 → q ≡ c
same_even c q e k g h = omega arith

before_odd : (q : ℕ) → q % 2 ≡ 1 → (q - 1) % 2 ≡ 0
before_odd q e = omega arith

after_odd : (q p : ℕ) → q % 2 ≡ 1 → p ≡ q + 1 → p % 2 ≡ 0
after_odd q p e h = omega arith

-- ---- half of z, rounded up, is half of z + 1 rounded down
record HalfUp (z y : ℤ) : Type 0 where
  wide : SFits w32 y
  fits : SFits w16 (floor_div y 2)
  whole : nat_abs z % 2 ≡ 0 → floor_div y 2 ≡ nearest_div z 2
  even : nat_abs z % 2 ≡ 1 → nat_abs (floor_div y 2) % 2 ≡ 0 → floor_div y 2 ≡ nearest_div z 2
  odd : nat_abs z % 2 ≡ 1 → nat_abs (floor_div y 2) % 2 ≡ 1 → floor_div y 2 -ℤ pos 1 ≡ nearest_div z 2

up : (z : ℤ) → SumRange z → HalfUp z (z +ℤ pos 1)
unfolding nearest_div
up (pos n) h = record {
  wide = record { sfits = omega arith };
  fits = record { sfits = omega arith };
  whole = λ e. ap pos (omega (arith, c.exact e));
  even = λ e k. ap pos (same_even (closest n 2) ((n + 1) / 2) (c.even (omega (arith, e))) k (omega (arith, c.high, e)) (omega (arith, c.low, e)));
  odd = λ e k. let g : 1 ≤ (n + 1) / 2 = omega (arith, e) in
      pos_sub_pos ((n + 1) / 2) 1 ∙ sub_ge ((n + 1) / 2) 1 g
      ∙ ap pos (same_even (closest n 2) ((n + 1) / 2 - 1) (c.even (omega (arith, e))) (before_odd ((n + 1) / 2) k) (omega (arith, c.high, e)) (omega (arith, c.low, e)));
}
  where
    c : Nearest n 2 (closest n 2)
    c = closest_nearest n 2 (omega arith)
up (negsuc zero) h = record {
  wide = sfits_lit tt;
  fits = sfits_lit tt;
  whole = λ e. absurd (omega (arith, e));
  even = λ e k. refl;
  odd = λ e k. absurd (omega (arith, k));
}
up (negsuc (suc m)) h = subst (HalfUp (negsuc (suc m))) (sym (+ℤ_one (negsuc (suc m)))) (record {
  wide = record { sfits = omega arith };
  fits = record { sfits = omega arith };
  whole = λ e. let q : suc (m / 2) ≡ closest (suc (suc m)) 2 = omega (arith, c.exact e) in ap − q;
  even = λ e k. ap − (same_even (closest (suc (suc m)) 2) (suc (m / 2)) (c.even (omega (arith, e))) k (omega (arith, c.high, e)) (omega (arith, c.low, e)));
  odd = λ e k. ap − (same_even (closest (suc (suc m)) 2) (suc (suc (m / 2 + 0))) (c.even (omega (arith, e))) (after_odd (suc (m / 2)) _ k (omega arith)) (omega (arith, c.high, e)) (omega (arith, c.low, e)));
})
  where
    c : Nearest (suc (suc m)) 2 (closest (suc (suc m)) 2)
    c = closest_nearest (suc (suc m)) 2 (omega arith)

-- ---- the mean
-- rounded up
abbrev pub mean_up : ℤ → ℤ → ℤ
mean_up l r = floor_div (l +ℤ r +ℤ pos 1) 2

pub record Sizes (l r : ℤ) : Type 0 where
  pub left : SFits w32 l
  pub right : SFits w32 r
  pub sum : SFits w32 (l +ℤ r)
  pub more : SFits w32 (l +ℤ r +ℤ pos 1)
  pub above : SFits w16 (mean_up l r)
  pub wide : SFits w32 (mean_up l r)

-- the sum is odd, and so is the mean rounded up
abbrev pub goes_down : ℤ → ℤ → Bool
goes_down l r = is_odd (nat_abs (l +ℤ r)) && is_odd (nat_abs (mean_up l r))

both_odd : (a b : ℕ) → (is_odd a && is_odd b) ≡ true → (a % 2 ≡ 1) × (b % 2 ≡ 1)
both_odd a b e = let t = both (is_odd a) (is_odd b) e in (eqb-true (a % 2) 1 t.0, eqb-true (b % 2) 1 t.1)

module _ (l r : ℤ) (f : SFits w16 l) (g : SFits w16 r) where
  half_up_lem : HalfUp (l +ℤ r) (l +ℤ r +ℤ pos 1)
  half_up_lem = up (l +ℤ r) (sum_range l r f g)

  -- what fits on the way
  pub sizes : Sizes l r
  sizes =
      let s = summed l r f g in
      record { left = s.left; right = s.right; sum = s.sum; more = half_up_lem.wide; above = half_up_lem.fits; wide = sfits_widen tt half_up_lem.fits }

  pub mean_below : goes_down l r ≡ true → mean_up l r -ℤ pos 1 ≡ mean l r
  unfolding mean
  mean_below e = let t = both_odd (nat_abs (l +ℤ r)) (nat_abs (mean_up l r)) e in half_up_lem.odd t.0 t.1

  pub mean_above : goes_down l r ≡ false → mean_up l r ≡ mean l r
  unfolding mean
  mean_above e =
      by_parity (nat_abs (l +ℤ r)) half_up_lem.whole
      (λ (o : nat_abs (l +ℤ r) % 2 ≡ 1). by_parity (nat_abs (mean_up l r)) (half_up_lem.even o) (λ k. absurd (true_false (rw (o, k) at e))))
