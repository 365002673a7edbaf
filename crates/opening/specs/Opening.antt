-- One record's stage: its questions 8, 9 and 2, and the stage that it opens (document 01, 'The questions'). Definitions only.
use Rattle.pcm.specs.declared.Error.{Error}
use Rattle.std.specs.Prelude.{Bool, true, ℕ, ltb, eqb, Ok, Err, Result}
use Rattle.std.specs.Float.{binary32}
use Rattle.std.specs.Float.Ieee.{of_bits}
use Rattle.gain.specs.Gain.{factor_allowed}
use Rattle.pcm.specs.declared.PcmFormat.{PcmFormat}
use Rattle.pcm.specs.declared.Error.TheVariants.{Unsupported, TooManyStages, SettingOutOfRange}
use Rattle.pcm.specs.Formats.{rate_allowed}
use Rattle.pcm.specs.Refusals.{ask, Verdict}
use Rattle.dc_block.specs.DcBlock.{pole_of}
use Rattle.biquad.specs.Recurrence.{floats}
use Rattle.rates.specs.Rates.{rates_allowed, reduced}
use Rattle.stage.specs.declared.StageKind.{StageKind}
use Rattle.stage.specs.declared.StageKind.TheVariants as kind
use Rattle.recipe.specs.declared.Record.{Record}
use Rattle.recipe.specs.declared.Record.TheVariants as rec

-- ---- one record: are gain and rates within their limits?
abbrev pub settings_allowed : Record → Bool
settings_allowed (rec.Gain q15) = factor_allowed q15
settings_allowed rec.MonoToStereo = true
settings_allowed rec.StereoToMono = true
settings_allowed (rec.Resample input output) = rates_allowed input output
settings_allowed (rec.DcBlock corner) = true
settings_allowed (rec.Biquad rate bits) = rate_allowed rate

-- does the channel count that reaches the stage suit it, and does the rate equal a resampler's input rate or a biquad's rate?
abbrev pub record_suits : PcmFormat → Record → Bool
record_suits f (rec.Gain q15) = true
record_suits f rec.MonoToStereo = eqb f.channels 1
record_suits f rec.StereoToMono = eqb f.channels 2
record_suits f (rec.Resample input output) = eqb f.rate input
record_suits f (rec.DcBlock corner) = true
record_suits f (rec.Biquad rate bits) = eqb f.rate rate

-- is it among the first eight, where so many more are allowed? else 8. Are gain and rates within their limits? else 9. Does the format suit it? else 2.
unfoldable pub stage_verdict : ℕ → PcmFormat → Record → Verdict
stage_verdict more f r =
    ask (ltb 0 more) TooManyStages
    (ask (settings_allowed r) SettingOutOfRange
    (ask (record_suits f r) Unsupported
    (Ok tt)))

-- the stage of a record. The DC pole is worked out at the rate that reaches it
abbrev pub stage_kind_of : PcmFormat → Record → StageKind
stage_kind_of f (rec.Gain q15) = kind.Gain (record { q15 = q15 })
stage_kind_of f rec.MonoToStereo = kind.MonoToStereo
stage_kind_of f rec.StereoToMono = kind.StereoToMono
stage_kind_of f (rec.Resample input output) = kind.Resample (reduced input output)
stage_kind_of f (rec.DcBlock corner) = kind.DcBlock (record { corner = corner; r = pole_of (of_bits binary32 corner) f.rate })
stage_kind_of f (rec.Biquad rate bits) = kind.Biquad (record { rate = rate; coefficients = floats bits; bits = bits })

abbrev pub stage_answer_of : Verdict → StageKind → Result StageKind Error
stage_answer_of (Ok _) k = Ok k
stage_answer_of (Err e) k = Err e

abbrev pub stage_answer : ℕ → PcmFormat → Record → Result StageKind Error
stage_answer more f r = stage_answer_of (stage_verdict more f r) (stage_kind_of f r)
