-- A lone resampler, the room that it wants and the frames that it brings (document 01, resample.rs and 'The questions'). Assumes nothing.
use Rattle.pcm.specs.declared.Error.{Error}
use Rattle.std.specs.Prelude.{◌≡◌, Bool, cond, ◌&&◌, false, ℕ, ◌+◌, ◌*◌, ◌/◌, ◌≤◌, ◌<◌, ◌-◌, leb, eqb, [], ◌∷◌, pos, Ok, Err, Result}
use Rattle.pcm.specs.Formats.{rate_allowed}
use Rattle.pcm.specs.declared.Error.TheVariants.{InvalidFormat, TooLong}
use Rattle.rates.specs.Divisor.{gcd}
use Rattle.rates.specs.Counting.{ceil_div, count}
use Rattle.rates.specs.declared.LinearResampler.{LinearResampler}
use Rattle.rates.specs.declared.ResamplerState.{ResamplerState}

-- are its rates within the limit?
unfoldable pub rates_allowed : ℕ → ℕ → Bool
rates_allowed input output = rate_allowed input && rate_allowed output

-- rates are divided by their greatest common divisor
unfoldable pub reduced : ℕ → ℕ → LinearResampler
reduced input output = record { in_rate = input; out_rate = output; in_r = input / gcd input output; out_r = output / gcd input output }

-- are its rates within the limit? else 1
unfoldable pub resampler_of : ℕ → ℕ → Result LinearResampler Error
resampler_of input output = cond (rates_allowed input output) (Ok (reduced input output)) (Err InvalidFormat)

-- for n frames the room wanted is ceil(n * out / in) + 1 frames, at equal rates also
unfoldable pub room_frames : ℕ → ℕ → ℕ → ℕ
room_frames input output n = ceil_div (n * output) input + 1

-- are its rates within the limit? else 1; at most 8,192 frames? else 10
unfoldable pub max_frames : LinearResampler → ℕ → Result ℕ Error
max_frames r n =
    cond (rates_allowed r.in_rate r.out_rate) (cond (leb n 8192) (Ok (room_frames r.in_rate r.out_rate n)) (Err TooLong)) (Err InvalidFormat)

-- rates within their limit, and in_r and out_r of the same ratio: what an opened resampler has
pub record Rates (r : LinearResampler) : Type 0 where
  pub input_rate : (0 < r.in_rate) × (r.in_rate ≤ 384000)
  pub output_rate : (0 < r.out_rate) × (r.out_rate ≤ 384000)
  pub in_r : (0 < r.in_r) × (r.in_r ≤ 384000)
  pub out_r : (0 < r.out_r) × (r.out_r ≤ 384000)
  pub same_ratio : r.in_r * r.out_rate ≡ r.out_r * r.in_rate

-- before the first frame, and after a reset
abbrev pub opened_state : ResamplerState
opened_state = record { last = pos 0 ∷ pos 0 ∷ []; phase = 0; primed = false }

-- how many frames n frames bring from a state, by its phase alone
unfoldable pub carried_count : ℕ → ℕ → Bool → ℕ → ℕ → ℕ
carried_count i o primed phase n = cond primed (count i phase (n * o)) (count i 0 ((n - 1) * o))

-- the same of the stage: equal rates copy
unfoldable pub resampled_count : LinearResampler → Bool → ℕ → ℕ → ℕ
resampled_count r primed phase n = cond (eqb r.in_rate r.out_rate) n (carried_count r.in_r r.out_r primed phase n)

-- the first output's position in out_r-ths of a frame, where 0 is the newest frame and out_r the first of the block
unfoldable pub start : ℕ → Bool → ℕ → ℕ
start o primed phase = cond primed phase o
