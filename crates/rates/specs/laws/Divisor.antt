-- The greatest common divisor by Euclid's steps: it divides both, and each common divisor divides it. Assumes nothing.
use Rattle.std.specs.Prelude.{◌≡◌, refl, Bool, true, false, cond, ℕ, zero, suc, ◌*◌, ◌/◌, ◌%◌, ◌≤◌, ◌<◌, eqb}
use Rattle.std.proofs.Common.{sym, subst, suc-le-suc, zero-le, le_refl, le_antisymm, not-suc-le-zero, mod-lt, div-le_self, arith, eqb-true}
use Rattle.std.specs.Int.{◌∣◌}
use Rattle.std.proofs.Math.Nat.{dvd_refl, dvd-zero, one-dvd, dvd-mod_iff, le_of_dvd, pos_of_dvd_of_pos, mod-eq-zero_of_dvd, dvd_of_mod-eq-zero, div-mul_cancel}
use Rattle.std.proofs.lemmas.Bool.{eqb-false}
use Rattle.rates.specs.Divisor.{GreatestCommonDivisor, largest_divisor, gcd}

-- the divisor of b and a % b is that of a and b
pub gcd_step : {a b g : ℕ} → GreatestCommonDivisor b (a % b) g → GreatestCommonDivisor a b g
gcd_step {a} {b} {g} r = record {
  first = (dvd-mod_iff g r.first).0 r.second;
  second = r.first;
  greatest = λ d u v. r.greatest d v ((dvd-mod_iff d v).1 u);
}

pub gcd-zero : (a : ℕ) → GreatestCommonDivisor a 0 a
gcd-zero a = record { first = dvd_refl a; second = dvd-zero a; greatest = λ d u v. u }

pub gcd_one : (a : ℕ) → GreatestCommonDivisor a 1 1
gcd_one a = record { first = one-dvd a; second = dvd_refl 1; greatest = λ d u v. v }

euclid : (f a b : ℕ) → b ≤ f → (g : ℕ) × GreatestCommonDivisor a b g
euclid zero a zero h = (a, gcd-zero a)
euclid zero a (suc b) h = absurd (not-suc-le-zero h)
euclid (suc f) a zero h = (a, gcd-zero a)
euclid (suc f) a (suc b) h =
    let l : a % suc b < suc b = mod-lt a (suc-le-suc zero-le) in
    let r = euclid f (suc b) (a % suc b) (omega arith) in
    (r.0, gcd_step r.1)

largest_is : (n : ℕ) {a b g : ℕ} → 0 < g → GreatestCommonDivisor a b g → g ≤ n → largest_divisor n a b ≡ g
unfolding largest_divisor
largest_is zero {a} {b} {g} p r h = omega arith
largest_is (suc n) {a} {b} {g} p r h = pick (λ k. largest_is n p r k) (eqb (a % suc n) 0) (eqb (b % suc n) 0) refl refl
  where
    below : (g ≡ suc n → ⊥) → g ≤ n
    below k = omega arith

    pick : (g ≤ n → largest_divisor n a b ≡ g) → (s t : Bool) → eqb (a % suc n) 0 ≡ s → eqb (b % suc n) 0 ≡ t → cond (eqb (a % suc n) 0) (cond (eqb (b % suc n) 0) (suc n) (largest_divisor n a b)) (largest_divisor n a b) ≡ g
    pick i true true e f =
        rw (e, f) (le_antisymm (le_of_dvd p (r.greatest (suc n) (dvd_of_mod-eq-zero (suc n) (eqb-true _ _ e)) (dvd_of_mod-eq-zero (suc n) (eqb-true _ _ f)))) h)
    pick i true false e f = rw (e, f) (i (below (λ k. eqb-false _ _ f (mod-eq-zero_of_dvd (suc n) (subst (λ (x : ℕ). x ∣ b) k r.second)))))
    pick i false t e f = rw e (i (below (λ k. eqb-false _ _ e (mod-eq-zero_of_dvd (suc n) (subst (λ (x : ℕ). x ∣ a) k r.first)))))

module _ (a b : ℕ) (h : 0 < a) where
  pub gcd_is_unique : {g : ℕ} → GreatestCommonDivisor a b g → gcd a b ≡ g
  unfolding gcd
  gcd_is_unique r = largest_is a (pos_of_dvd_of_pos r.first h) r (le_of_dvd h r.first)

  pub gcd_is : GreatestCommonDivisor a b (gcd a b)
  gcd_is = let r = euclid b a b (le_refl b) in subst (λ (g : ℕ). GreatestCommonDivisor a b g) (sym (gcd_is_unique r.1)) r.1

  pub gcd_positive : 0 < gcd a b
  gcd_positive = pos_of_dvd_of_pos gcd_is.first h

  -- what is left of a rate that it divides
  pub reduced_rate : (n : ℕ) → 0 < n → gcd a b ∣ n → (0 < n / gcd a b) × (n / gcd a b ≤ n)
  reduced_rate n k d = (positive (n / gcd a b) (div-mul_cancel (gcd a b) d), div-le_self n (gcd a b))
    where
      positive : (q : ℕ) → q * gcd a b ≡ n → 0 < q
      positive zero e = absurd (let z : ⊥ = omega arith in z)
      positive (suc q) e = suc-le-suc zero-le
