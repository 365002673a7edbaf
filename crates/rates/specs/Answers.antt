-- What the answers of a lone resampler tell: document 01's number and values for each case ('The questions'). Assumes nothing.
use Rattle.pcm.specs.declared.Error.{Error}
use Rattle.std.specs.Prelude.{ℕ, leb, Ok, Err, Result}
use Rattle.pcm.specs.declared.Error.TheVariants.{InvalidFormat, TooLong}
use Rattle.pcm.specs.Refusals.{refusal, ask, value_told, Verdict}
use Rattle.pcm.specs.declared.Valued.{Valued}
use Rattle.rates.specs.Rates.{rates_allowed}
use Rattle.rates.specs.declared.LinearResampler.{LinearResampler}

-- what opening tells: 0, in_r and out_r, or the refusal's number and no rates
pub record RatesTold : Type 0 where
  pub number : ℕ
  pub in_r : ℕ
  pub out_r : ℕ

abbrev pub rates_told : Verdict → ℕ → ℕ → RatesTold
rates_told (Ok _) i o = record { number = 0; in_r = i; out_r = o }
rates_told (Err e) i o = record { number = (refusal e).number; in_r = 0; out_r = 0 }

abbrev pub new_told : (Result LinearResampler Error) → RatesTold
new_told (Ok r) = rates_told (Ok tt) r.in_r r.out_r
new_told (Err e) = rates_told (Err e) 0 0

-- 0 and the frames, or the refusal's number
abbrev pub max_told : (Result ℕ Error) → Valued
max_told = value_told

-- are its rates within the limit? else 1
abbrev pub new_verdict : ℕ → ℕ → Verdict
new_verdict input output = ask (rates_allowed input output) InvalidFormat (Ok tt)

-- are its rates within the limit? else 1; at most 8,192 frames? else 10
abbrev pub max_verdict : LinearResampler → ℕ → Verdict
max_verdict r n = ask (rates_allowed r.in_rate r.out_rate) InvalidFormat (ask (leb n 8192) TooLong (Ok tt))
