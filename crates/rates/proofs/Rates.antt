-- Ceilings as the library takes them, the count by the first output's position, and the steps of the divisor's search. Assumes nothing.
use Rattle.std.specs.Prelude.{◌≡◌, refl, Bool, true, false, cond, ℕ, zero, suc, ◌-◌, ◌*◌, ◌%◌, ◌<◌, eqb}
use Rattle.std.proofs.Common.{sym, ap, ◌∙◌, le_antisymm, le_of_suc-le-suc, arith}
use Rattle.std.proofs.Math.Nat.{lt_of_mul-lt-mul_right}
use Rattle.std.specs.Int.{div_ceil}
use Rattle.std.proofs.lemmas.Grind.{div_ceil_times}
use Rattle.rates.specs.Counting.{ceil_div, count}
use Rattle.rates.specs.laws.Counting.{ceil_reach, ceil_least}
use Rattle.rates.specs.Divisor.{gcd, remainders_to}
use Rattle.rates.specs.laws.Divisor.{gcd_step, gcd-zero, gcd_one, gcd_is, gcd_is_unique}
use Rattle.rates.specs.laws.Search.{one_remainder}
use Rattle.rates.specs.Rates.{carried_count, resampled_count, start}
use Rattle.rates.specs.declared.LinearResampler.{LinearResampler}

-- the library's ceiling
pub ceil_is : (a b : ℕ) → 0 < b → div_ceil a b ≡ ceil_div a b
ceil_is a b h =
    let d = div_ceil_times a b h in
    let k : div_ceil a b * b < suc (ceil_div a b) * b = omega (arith, d.1, ceil_reach b h a) in
    le_antisymm (le_of_suc-le-suc (lt_of_mul-lt-mul_right b k)) (ceil_least b h a (div_ceil a b) d.0)

count_by_loop : (i o : ℕ) (primed : Bool) (phase n : ℕ) → carried_count i o primed phase n ≡ count i (start o primed phase) (n * o)
unfolding carried_count start
count_by_loop i o true phase n = refl
count_by_loop i o false phase n = let e : (n - 1) * o - 0 ≡ n * o - o = sub n in rw e
  where
    sub : (n : ℕ) → (n - 1) * o - 0 ≡ n * o - o
    sub zero = omega arith
    sub (suc n) = let e : suc n - 1 ≡ n = omega arith in rw e (omega arith)

pub counted : (r : LinearResampler) (primed : Bool) (phase n : ℕ) → 0 < r.in_r
    → resampled_count r primed phase n ≡ cond (eqb r.in_rate r.out_rate) n (div_ceil (n * r.out_r - start r.out_r primed phase) r.in_r)
unfolding resampled_count
counted r primed phase n h =
    ap (cond (eqb r.in_rate r.out_rate) n) (count_by_loop r.in_r r.out_r primed phase n ∙ sym (ceil_is (n * r.out_r - start r.out_r primed phase) r.in_r h))

-- ---- the search
pub gcd_by_one : (a : ℕ) → 0 < a → gcd a 1 ≡ 1
gcd_by_one a h = gcd_is_unique a 1 h (gcd_one a)

pub gcd_by_zero : (a : ℕ) → 0 < a → gcd a 0 ≡ a
gcd_by_zero a h = gcd_is_unique a 0 h (gcd-zero a)

pub gcd_next : (a b : ℕ) → 0 < a → 0 < b → gcd a b ≡ gcd b (a % b)
gcd_next a b h k = gcd_is_unique a b h (gcd_step (gcd_is b (a % b) k))

-- one remainder fewer is left
pub search_falls : (a b : ℕ) → 1 < b → remainders_to 1 b (a % b) < remainders_to 1 a b
search_falls a b h = omega (arith, one_remainder 1 a b h)

pub ruleset search_steps = (gcd_by_one, gcd_by_zero, gcd_next, search_falls)
