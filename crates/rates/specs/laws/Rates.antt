-- What rates within the limit give: reduced rates of the same ratio, and counts within the room. Assumes nothing.
use Rattle.std.specs.Prelude.{◌≡◌, Bool, leb, ltb, Ok}
use Rattle.std.proofs.Common.{sym, ap₂, ◌∙◌, le_refl, le_of_mul-le-mul_right, mul-le-mul_right, leb-true, ltb-true}
use Rattle.std.proofs.Math.Path.{ap}
use Rattle.std.proofs.Math.Bool.{true, false}
use Prim.Native.Nat.{ℕ, ◌-◌, ◌*◌, ◌/◌, ◌≤◌, ◌<◌}
use Rattle.std.proofs.Math.Nat.{div-mul_cancel, le_trans}
use native.Mathlib.Omega.{arith}
use Rattle.pcm.specs.Formats.{rate_allowed}
use Rattle.rates.specs.Counting.{ceil_div, count}
use Rattle.rates.specs.laws.Counting.{count_least, ceil_reach, ceil_scale}
use Rattle.rates.specs.Divisor.{gcd}
use Rattle.rates.specs.laws.Divisor.{gcd_is, reduced_rate}
use Rattle.rates.specs.declared.LinearResampler.{LinearResampler}
use Rattle.pcm.specs.laws.Tests.{both}
use Rattle.rates.specs.Rates.{rates_allowed, reduced, resampler_of, carried_count, Rates}

rate_within : (rate : ℕ) → rate_allowed rate ≡ true → (0 < rate) × (rate ≤ 384000)
unfolding rate_allowed
rate_within rate h = let k = both (ltb 0 rate) (leb rate 384000) h in (ltb-true 0 rate k.0, leb-true rate 384000 k.1)

module _ (input output : ℕ) (h : rates_allowed input output ≡ true) where
  pub rates_within : ((0 < input) × (input ≤ 384000)) × ((0 < output) × (output ≤ 384000))
  unfolding rates_allowed
  rates_within = let k = both (rate_allowed input) (rate_allowed output) h in (rate_within input k.0, rate_within output k.1)

  pub reduced_rates : Rates (reduced input output)
  unfolding reduced
  reduced_rates =
      let g : ℕ = gcd input output in
      let a = rates_within.0 in
      let b = rates_within.1 in
      let d = gcd_is input output a.0 in
      let p = reduced_rate input output a.0 input a.0 d.first in
      let q = reduced_rate input output a.0 output b.0 d.second in
      record {
        input_rate = a;
        output_rate = b;
        in_r = (p.0, le_trans p.1 a.1);
        out_r = (q.0, le_trans q.1 b.1);
        same_ratio = ratio (input / g) (output / g) g (div-mul_cancel g d.first) (div-mul_cancel g d.second);
      }
    where
      ratio : (i o g : ℕ) → i * g ≡ input → o * g ≡ output → i * output ≡ o * input
      ratio i o g e f = ap (λ (n : ℕ). i * n) (sym f) ∙ omega arith ∙ ap (λ (n : ℕ). o * n) e

  pub opened_made : resampler_of input output ≡ Ok (reduced input output)
  unfolding resampler_of
  opened_made = rw h

-- ---- ceilings by the rates and by in_r and out_r
module _ (r : LinearResampler) (k : Rates r) (n : ℕ) where
  pub room_reaches : n * r.out_rate ≤ ceil_div (n * r.out_rate) r.in_rate * r.in_rate
  room_reaches = ceil_reach r.in_rate k.input_rate.0 (n * r.out_rate)

  reduced_reaches : n * r.out_r ≤ ceil_div (n * r.out_rate) r.in_rate * r.in_r
  reduced_reaches =
      le_of_mul-le-mul_right {k = r.in_rate} (omega (arith, ap (λ (m : ℕ). n * m) k.same_ratio, mul-le-mul_right r.in_r room_reaches)) k.input_rate.0

  counted_in_room : (p D : ℕ) → D ≤ n * r.out_r → count r.in_r p D ≤ ceil_div (n * r.out_rate) r.in_rate
  counted_in_room p D h = count_least r.in_r k.in_r.0 p D (ceil_div (n * r.out_rate) r.in_rate) (omega (arith, reduced_reaches))

  pub carried_in_room : (primed : Bool) (phase : ℕ) → carried_count r.in_r r.out_r primed phase n ≤ ceil_div (n * r.out_rate) r.in_rate
  unfolding carried_count
  carried_in_room true phase = counted_in_room phase (n * r.out_r) (le_refl (n * r.out_r))
  carried_in_room false phase = counted_in_room 0 ((n - 1) * r.out_r) (mul-le-mul_right r.out_r (omega arith))

  pub ceil_by_rates : ceil_div (n * r.out_r) r.in_r ≡ ceil_div (n * r.out_rate) r.in_rate
  ceil_by_rates =
      let e : n * r.out_r * r.in_rate ≡ n * r.out_rate * r.in_r = omega (arith, ap (λ (m : ℕ). n * m) k.same_ratio) in
      let f : r.in_r * r.in_rate ≡ r.in_rate * r.in_r = omega arith in
      sym (ceil_scale (n * r.out_r) r.in_r r.in_rate k.in_r.0 k.input_rate.0)
      ∙ ap₂ ceil_div e f ∙ ceil_scale (n * r.out_rate) r.in_rate r.in_r k.input_rate.0 k.in_r.0
