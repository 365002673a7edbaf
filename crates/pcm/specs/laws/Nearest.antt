-- Quotients rounded to the nearest whole number, an exact half to the even one. Assumes nothing.
use Rattle.std.specs.Prelude.{◌≡◌, refl, ℤ, negsuc, nat_abs, ◌-ℤ◌, ◌*ℤ◌}
use Rattle.std.proofs.Math.Path.{ap}
use Rattle.std.proofs.Common.{◌∙◌, div-add-mod', mod-lt, add-mul, arith, eqb-true, leb-true, leb-false}
use Prim.Native.Nat.{ℕ, zero, suc, ◌+◌, ◌*◌, ◌/◌, ◌%◌, ◌≤◌, ◌<◌, compare, Ordering}
use Rattle.std.proofs.Math.Decide.{dec_lt}
use Rattle.std.proofs.lemmas.Bool.{eqb-false}
use Rattle.std.proofs.Math.Dec.{is_le, compare_is_eq}
use Rattle.std.specs.Float.Ieee.{nearest}
use Rattle.std.specs.Float.Ieee.Nearest.{closest}
use Rattle.std.proofs.Math.IntN.{pos}
use Rattle.pcm.specs.Integers.{−, nearest_div}
use Rattle.pcm.specs.laws.Integers.{pos_sub_pos, dist_le, abs_neg, neg_*ℤ}

-- n is even, or it is odd
pub by_parity : {A : Type 0} (n : ℕ) → (n % 2 ≡ 0 → A) → (n % 2 ≡ 1 → A) → A
by_parity {A} n even odd = go (dec_lt (n % 2) 1)
  where
    go : Dec (n % 2 < 1) → A
    go (yes l) = even (omega arith)
    go (no l) = odd (omega arith)

-- c is within one half of a / n, is a / n where that is whole, and is even where that is an exact half
pub record Nearest (a n c : ℕ) : Type 0 where
  pub high : c * n * 2 ≤ a * 2 + n
  pub low : a * 2 ≤ c * n * 2 + n
  pub exact : a % n ≡ 0 → c * n ≡ a
  pub even : a % n * 2 ≡ n → c % 2 ≡ 0

pub closest_nearest : (a n : ℕ) → 0 < n → Nearest a n (closest a n)
closest_nearest a n p = go (compare (a % n * 2) n) refl
  where
    whole : a / n * n + a % n ≡ a
    whole = div-add-mod' a n

    up : (a / n + 1) * n ≡ a / n * n + n
    up = add-mul (a / n) 1 n ∙ omega arith

    -- the whole part of an exact half is even, or one less than an even number
    tie : a % n * 2 ≡ n → Nearest a n (a / n + a / n % 2)
    tie h = record {
      high = by_parity (a / n) (λ e. rw e (omega (arith, whole))) (λ e. rw e (omega (arith, whole, up)));
      low = by_parity (a / n) (λ e. rw e (omega (arith, whole))) (λ e. rw e (omega (arith, whole, up)));
      exact = λ e. absurd (omega (arith, e, h, p));
      even = λ _. omega arith;
    }

    go : (o : Ordering) → compare (a % n * 2) n ≡ o → Nearest a n (nearest (a / n) o)
    go Ordering.lt e =
        let le : a % n * 2 ≤ n = leb-true (a % n * 2) n (ap is_le e) in
        let ne : a % n * 2 ≡ n → ⊥ = eqb-false (a % n * 2) n (ap compare_is_eq e) in
        record {
          high = omega (arith, whole);
          low = omega (arith, whole);
          exact = λ z. omega (arith, whole, z);
          even = λ z. absurd (ne z);
        }
    go Ordering.eq e = tie (eqb-true (a % n * 2) n (ap compare_is_eq e))
    go Ordering.gt e =
        let h : n < a % n * 2 = leb-false (a % n * 2) n (ap is_le e) in
        record {
          high = omega (arith, whole, up, mod-lt a p);
          low = omega (arith, whole, up, mod-lt a p);
          exact = λ z. absurd (omega (arith, z, h));
          even = λ z. absurd (omega (arith, z, h));
        }

module _ (n : ℕ) (p : 0 < n) where
  below_near : (m a : ℕ) → m * 2 ≤ suc a * 2 + n → suc a * 2 ≤ m * 2 + n → nat_abs (− m -ℤ negsuc a) * 2 ≤ n
  below_near zero a h k = omega arith
  below_near (suc m) a h k = dist_le (suc a) (suc m) 2 n k h

  -- twice the distance, times n
  pub nearest_near : (z : ℤ) → nat_abs (nearest_div z n *ℤ pos n -ℤ z) * 2 ≤ n
  unfolding nearest_div
  nearest_near (pos a) = let c = closest_nearest a n p in rw (pos_sub_pos (closest a n * n) a) (dist_le (closest a n * n) a 2 n c.high c.low)
  nearest_near (negsuc a) = let c = closest_nearest (suc a) n p in rw (neg_*ℤ (pos (closest (suc a) n)) (pos n)) (below_near (closest (suc a) n * n) a c.high c.low)

  pub nearest_exact : (z : ℤ) → nat_abs z % n ≡ 0 → nearest_div z n *ℤ pos n ≡ z
  unfolding nearest_div
  nearest_exact (pos a) e = ap pos ((closest_nearest a n p).exact e)
  nearest_exact (negsuc a) e = neg_*ℤ (pos (closest (suc a) n)) (pos n) ∙ ap − ((closest_nearest (suc a) n p).exact e)

  pub nearest_even : (z : ℤ) → nat_abs z % n * 2 ≡ n → nat_abs (nearest_div z n) % 2 ≡ 0
  unfolding nearest_div
  nearest_even (pos a) e = (closest_nearest a n p).even e
  nearest_even (negsuc a) e = ap (λ (m : ℕ). m % 2) (abs_neg (closest (suc a) n)) ∙ (closest_nearest (suc a) n p).even e
