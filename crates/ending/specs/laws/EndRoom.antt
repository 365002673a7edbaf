-- The floor by the rates themselves, and that the room a block wants holds what n frames and the end bring. Assumes nothing.
use Rattle.std.specs.Prelude.{◌≡◌, Bool, leb}
use Rattle.std.proofs.Math.Path.{refl, ap}
use Rattle.std.proofs.Common.{sym, ap₂, ◌∙◌, le-div_iff_mul-le, div-mul-le_self, mul-le-mul_right}
use Rattle.std.proofs.Math.Bool.{true, false, cond}
use Prim.Native.Nat.{ℕ, zero, suc, ◌+◌, ◌-◌, ◌*◌, ◌/◌, ◌≤◌, ◌<◌}
use Rattle.std.proofs.Math.Nat.{mul-div-mul_right, le_of_mul-le-mul_right}
use native.Mathlib.Omega.{arith}
use borrow.Author.Tests.{eqb-true}
use Rattle.std.proofs.Math.Dec.{eqb}
use Rattle.rates.specs.declared.LinearResampler.{LinearResampler}
use Rattle.rates.specs.Counting.{ceil_div}
use Rattle.rates.specs.laws.Counting.{ceil_reach}
use Rattle.rates.specs.Rates.{Rates, room_frames}
use Rattle.ending.specs.ResamplerEnd.{up_to, end_count, end_frame_count}

module _ (r : LinearResampler) (rates : Rates r) where
  pub floor_by_rates : (n : ℕ) → n * r.out_r / r.in_r ≡ n * r.out_rate / r.in_rate
  floor_by_rates n =
      let e : n * r.out_r * r.in_rate ≡ n * r.out_rate * r.in_r = omega (arith, ap (λ (m : ℕ). n * m) rates.same_ratio) in
      let f : r.in_r * r.in_rate ≡ r.in_rate * r.in_r = omega arith in
      sym (mul-div-mul_right (n * r.out_r) r.in_r rates.input_rate.0) ∙ ap₂ (λ (a b : ℕ). a / b) e f
      ∙ mul-div-mul_right (n * r.out_rate) r.in_rate rates.in_r.0

floor_mono : (a b c : ℕ) → 0 < c → a ≤ b → a / c ≤ b / c
floor_mono a b c hc h = (le-div_iff_mul-le {x = a / c} {y = b} hc).1 (omega (arith, div-mul-le_self a c))

up_to_most : (i p D E : ℕ) → 0 < i → D ≤ E → up_to i p D ≤ E / i + 1
up_to_most i p D E hi h = go (leb p D)
  where
    go : (t : Bool) → cond t ((D - p) / i + 1) 0 ≤ E / i + 1
    go true = omega (arith, floor_mono (D - p) E i hi (let k : D - p ≤ E = omega arith in k))
    go false = omega arith

module _ (r : LinearResampler) (rates : Rates r) (n : ℕ) where
  floor_room : n * r.out_r / r.in_r ≤ ceil_div (n * r.out_rate) r.in_rate
  floor_room = rw (floor_by_rates r rates n) (floor_mono (n * r.out_rate) (n * r.out_rate + (r.in_rate - 1)) r.in_rate rates.input_rate.0 (let k : n * r.out_rate ≤ n * r.out_rate + (r.in_rate - 1) = omega arith in k))

  end_count_most : (primed : Bool) (phase : ℕ) (m : ℕ) → m ≤ n → end_count r.in_r r.out_r primed phase m ≤ ceil_div (n * r.out_rate) r.in_rate + 1
  unfolding end_count
  end_count_most true phase m h = omega (arith, up_to_most r.in_r phase (m * r.out_r) (n * r.out_r) rates.in_r.0 (mul-le-mul_right r.out_r h), floor_room)
  end_count_most false phase zero h = omega arith
  end_count_most false phase (suc m) h =
      omega (arith, up_to_most r.in_r 0 (m * r.out_r) (n * r.out_r) rates.in_r.0 (mul-le-mul_right r.out_r (let k : m ≤ n = omega arith in k)), floor_room)

  pub end_room_holds : (primed : Bool) (phase : ℕ) → end_frame_count r primed phase n ≤ room_frames r.in_rate r.out_rate n
  unfolding end_frame_count room_frames
  end_room_holds primed phase = go (eqb r.in_rate r.out_rate) refl
    where
      go : (b : Bool) → eqb r.in_rate r.out_rate ≡ b → cond b n (end_count r.in_r r.out_r primed phase n) ≤ ceil_div (n * r.out_rate) r.in_rate + 1
      go true e =
          let q : r.in_rate ≡ r.out_rate = eqb-true _ _ e in
          let h : n ≤ ceil_div (n * r.out_rate) r.in_rate =
          le_of_mul-le-mul_right {k = r.in_rate} (omega (arith, ceil_reach r.in_rate rates.input_rate.0 (n * r.out_rate), ap (λ (m : ℕ). n * m) q)) rates.input_rate.0 in
          omega arith
      go false e = end_count_most primed phase n (omega arith)
