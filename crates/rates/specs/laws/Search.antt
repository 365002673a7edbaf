-- How many remainders Euclid's search takes: one a step, and one fewer to 1 than to 0 where the greatest common divisor is 1. Assumes nothing.
use Rattle.std.specs.Prelude.{◌≡◌, Bool, true, false, cond, eqb, leb}
use Rattle.std.proofs.Math.Path.{refl}
use Rattle.std.proofs.Common.{sym, ap, ◌∙◌, le_refl, mod-lt, not-suc-le-zero, arith, le-leb, leb-true, leb-false, eq-eqb, ne_eqb}
use Prim.Native.Nat.{ℕ, zero, suc, ◌+◌, ◌%◌, ◌≤◌, ◌<◌, suc-le-suc, zero-le}
use Rattle.std.proofs.lemmas.Bool.{lt-leb}
use Rattle.rates.specs.Divisor.{gcd, remainders_within, remainders_to}
use Rattle.rates.specs.laws.Divisor.{gcd_step, gcd-zero, gcd_one, gcd_is, gcd_is_unique}

module _ (last : ℕ) where
  within_none : (n a b : ℕ) → b ≤ last → remainders_within n last a b ≡ 0
  unfolding remainders_within
  within_none zero a b h = refl
  within_none (suc n) a b h = rw (le-leb b last h)

  within_one : (n a b : ℕ) → last < b → remainders_within (suc n) last a b ≡ suc (remainders_within n last b (a % b))
  unfolding remainders_within
  within_one n a b h = rw (lt-leb b last h)

  -- b are enough
  within_enough : (n m a b : ℕ) → b ≤ n → b ≤ m → remainders_within n last a b ≡ remainders_within m last a b
  within_enough zero m a b h k = let l : b ≤ last = omega arith in within_none zero a b l ∙ sym (within_none m a b l)
  within_enough (suc n) zero a b h k = let l : b ≤ last = omega arith in within_none (suc n) a b l ∙ sym (within_none zero a b l)
  within_enough (suc n) (suc m) a b h k = pick (λ u v. within_enough n m b (a % b) u v) (leb b last) refl
    where
      pick : (a % b ≤ n → a % b ≤ m → remainders_within n last b (a % b) ≡ remainders_within m last b (a % b)) → (t : Bool) → leb b last ≡ t
          → remainders_within (suc n) last a b ≡ remainders_within (suc m) last a b
      pick i true e = let l : b ≤ last = leb-true b last e in within_none (suc n) a b l ∙ sym (within_none (suc m) a b l)
      pick i false e =
          let l : last < b = leb-false b last e in
          let r : a % b < b = mod-lt a (omega arith) in
          within_one n a b l ∙ (ap suc (i (omega arith) (omega arith)) ∙ sym (within_one m a b l))

  no_remainder : (a b : ℕ) → b ≤ last → remainders_to last a b ≡ 0
  no_remainder a b = within_none b a b

  pub one_remainder : (a b : ℕ) → last < b → remainders_to last a b ≡ suc (remainders_to last b (a % b))
  one_remainder a zero h = absurd (not-suc-le-zero h)
  one_remainder a (suc b) h =
      let r : a % suc b < suc b = mod-lt a (suc-le-suc zero-le) in
      within_one b a (suc b) h ∙ ap suc (within_enough b (a % suc b) (suc b) (a % suc b) (omega arith) (le_refl (a % suc b)))

-- 1 where the greatest common divisor is 1
abbrev saved : ℕ → ℕ → ℕ
saved a b = cond (eqb (gcd a b) 1) 1 0

saved_none : (a : ℕ) → 1 < a → saved a 0 ≡ 0
saved_none a h = let e : gcd a 0 ≡ a = gcd_is_unique a 0 (omega arith) (gcd-zero a) in rw (ne_eqb (gcd a 0) 1 (λ z. omega arith))

saved_one : (a : ℕ) → 0 < a → saved a 1 ≡ 1
saved_one a h = rw (eq-eqb (gcd a 1) 1 (gcd_is_unique a 1 h (gcd_one a)))

saved_step : (a b : ℕ) → 0 < a → 0 < b → saved a b ≡ saved b (a % b)
saved_step a b h k = ap (λ (g : ℕ). cond (eqb g 1) 1 0) (gcd_is_unique a b h (gcd_step (gcd_is b (a % b) k)))

abbrev Saves : ℕ → ℕ → Type 0
Saves a b = remainders_to 0 a b ≡ remainders_to 1 a b + saved a b

-- wherever the search has come to
saves_next : (a b : ℕ) → 0 < a → (b ≡ 0 → 1 < a) → (1 < b → Saves b (a % b)) → Saves a b
saves_next a zero h z i = omega (arith, no_remainder 0 a 0 zero-le, no_remainder 1 a 0 zero-le, saved_none a (z refl))
saves_next a (suc zero) h z i =
    let r : a % 1 < 1 = mod-lt a (omega arith) in
    omega (arith, one_remainder 0 a 1 (omega arith), no_remainder 0 1 (a % 1) (omega arith), no_remainder 1 a 1 (omega arith), saved_one a h)
saves_next a (suc (suc b)) h z i =
    let d : ℕ = suc (suc b) in
    omega (arith, i (omega arith), one_remainder 0 a d (omega arith), one_remainder 1 a d (omega arith), saved_step a d h (omega arith))

-- n bounds b
saves_from : (n a b : ℕ) → b ≤ n → 0 < a → (b ≡ 0 → 1 < a) → Saves a b
saves_from zero a b l h z = saves_next a b h z (λ u. absurd (let n : ⊥ = omega arith in n))
saves_from (suc n) a b l h z = saves_next a b h z (λ u. let r : a % b < b = mod-lt a (omega arith) in saves_from n b (a % b) (omega arith) (omega arith) (λ e. u))

pub saves : (a b : ℕ) → 0 < a → 0 < b → Saves a b
saves a b h k = saves_from b a b (le_refl b) h (λ z. absurd (let n : ⊥ = omega arith in n))
