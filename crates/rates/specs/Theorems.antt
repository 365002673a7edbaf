-- What the definitions come to: the chief theorems of this crate. Assumes nothing.
use Rattle.std.specs.Prelude.{◌≡◌, refl, Bool, true, false, cond, ℕ, ◌+◌, ◌*◌, ◌/◌, ◌≤◌, ◌<◌, eqb}
use Rattle.std.proofs.Common.{ap, le_refl, le_of_mul-le-mul_right, one-mul, arith, eqb-true}
use Rattle.std.specs.Int.{◌∣◌}
use Rattle.std.proofs.Math.Nat.{le_of_dvd, div-mul_cancel, mul-dvd-mul_right, dvd_of_mul-dvd-mul_right, eq-one_of_dvd-one}
use Rattle.rates.specs.Counting.{ceil_div}
use Rattle.rates.specs.laws.Counting.{ceil_reach, ceil_least}
use Rattle.rates.specs.Divisor.{gcd, remainders_to}
use Rattle.rates.specs.laws.Divisor.{gcd_is, gcd_positive}
use Rattle.rates.specs.laws.Search.{saves}
use Rattle.rates.specs.Rates.{carried_count, resampled_count, room_frames, Rates}
use Rattle.rates.specs.laws.Rates.{room_reaches, carried_in_room}
use Rattle.rates.specs.declared.LinearResampler.{LinearResampler}

-- the greatest common divisor is the largest common divisor
pub gcd_largest : (a b : ℕ) → 0 < a → (d : ℕ) → d ∣ a → d ∣ b → d ≤ gcd a b
gcd_largest a b h d u v = le_of_dvd (gcd_positive a b h) ((gcd_is a b h).greatest d u v)

-- rates without a common divisor reach a remainder of 1 one step before 0; of others the search takes as many as to 0
pub coprime_saves_one : (a b : ℕ) → 0 < a → 0 < b → remainders_to 0 a b ≡ remainders_to 1 a b + cond (eqb (gcd a b) 1) 1 0
coprime_saves_one = saves

-- in_r and out_r have no common divisor but 1
pub reduced_coprime : (a b : ℕ) → 0 < a → (d : ℕ) → d ∣ a / gcd a b → d ∣ b / gcd a b → d ≡ 1
reduced_coprime a b h d u v =
    let g : ℕ = gcd a b in
    let x : d * g ∣ a = rw (div-mul_cancel g (gcd_is a b h).first) at (mul-dvd-mul_right d u g) in
    let y : d * g ∣ b = rw (div-mul_cancel g (gcd_is a b h).second) at (mul-dvd-mul_right d v g) in
    let z : d * g ∣ 1 * g = rw one-mul ((gcd_is a b h).greatest (d * g) x y) in
    eq-one_of_dvd-one (dvd_of_mul-dvd-mul_right {k = g} d {n = 1} (gcd_positive a b h) z)

-- 0 frames give 1
pub room_of_none : (input output : ℕ) → 0 < input → room_frames input output 0 ≡ 1
unfolding room_frames
room_of_none input output h = let e : ceil_div (0 * output) input ≤ 0 = ceil_least input h (0 * output) 0 (omega arith) in omega arith

-- equal rates want one frame more than come
pub room_of_equal : (rate n : ℕ) → 0 < rate → room_frames rate rate n ≡ n + 1
unfolding room_frames
room_of_equal rate n h =
    let a : ceil_div (n * rate) rate ≤ n = ceil_least rate h (n * rate) n (le_refl (n * rate)) in
    let b : n ≤ ceil_div (n * rate) rate = le_of_mul-le-mul_right {k = rate} (ceil_reach rate h (n * rate)) h in
    omega arith

-- the room wanted holds what is delivered, from any phase
pub room_holds : (r : LinearResampler) → Rates r → (n : ℕ) (primed : Bool) (phase : ℕ) → resampled_count r primed phase n ≤ room_frames r.in_rate r.out_rate n
unfolding resampled_count room_frames
room_holds r k n primed phase = go (eqb r.in_rate r.out_rate) refl
  where
    go : (b : Bool) → eqb r.in_rate r.out_rate ≡ b → cond b n (carried_count r.in_r r.out_r primed phase n) ≤ ceil_div (n * r.out_rate) r.in_rate + 1
    go true e =
        let q : r.in_rate ≡ r.out_rate = eqb-true _ _ e in
        let h : n ≤ ceil_div (n * r.out_rate) r.in_rate = le_of_mul-le-mul_right {k = r.in_rate} (omega (arith, room_reaches r k n, ap (λ (m : ℕ). n * m) q)) k.input_rate.0 in
        omega (arith, h)
    go false e = omega (arith, carried_in_room r k n primed phase)
