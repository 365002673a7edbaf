-- What opening a resampler tells, and what a resampler as opened makes of a block. Assumes nothing.
use Rattle.std.specs.Prelude.{List, ℕ}
use Rattle.pcm.specs.Frames.{Frame, frames_of}
use Rattle.rates.specs.Answers.{RatesTold}
use Rattle.rates.specs.Rates.{opened_state}
use Rattle.resample.specs.Resample.{resampled}
use Rattle.kernels.specs.declared.RatesResult.{RatesResult}

abbrev pub rates_result : RatesTold → RatesResult
rates_result t = record { number = t.number; in_r = t.in_r; out_r = t.out_r }

abbrev pub opened_output : ℕ → ℕ → ℕ → ℕ → ℕ → List ℕ → List Frame
opened_output inRate outRate inR outR ch bytes = resampled (record { in_rate = inRate; out_rate = outRate; in_r = inR; out_r = outR }) opened_state (frames_of ch bytes)
