-- Document 01, 'On the cupping table': its cases, of the definitions. Assumes nothing.
use Rattle.std.specs.Prelude.{◌≡◌, refl, true, false, List, [], ◌∷◌, map, ℕ, ◌+◌, ◌-◌, ◌*◌, ◌^◌, pos, Float, Ok}
use Rattle.std.specs.Float.{fin}
use Rattle.std.specs.Float.Ieee.{neg, of_int, add, sub, mul, round}
use Rattle.pcm.specs.Integers.{−, nearest_div}
use Rattle.pcm.specs.Samples.{held}
use Rattle.floats.specs.Rounding.{round_sat, rounded16, half_up}
use Rattle.pcm.specs.Frames.{Frame}
use Rattle.filters.specs.Filters.{at_rest, filtered}
use Rattle.gain.specs.Gain.{held_factor, scaled}
use Rattle.mean.specs.Mean.{mean}
use Rattle.channels.specs.Channels.{mixdown, mixed}
use Rattle.dc_block.specs.DcBlock.{dc_tick}
use Rattle.rates.specs.Divisor.{gcd, largest_divisor}
use Rattle.resample.specs.Value.{interpolated}
use Rattle.resample.specs.Resample.{blend, output_at, whole_outputs, among, first_at, outputs_from, carried_outputs, resampled, resampled_whole}
use Rattle.rates.specs.Rates.{opened_state, reduced}
use Rattle.pcm.specs.declared.PcmFormat.{PcmFormat}
use Rattle.pcm.specs.declared.Error.TheVariants.{UnknownStage}
use Rattle.pcm.specs.Formats.{format_allowed}
use Rattle.pcm.specs.Refusals.{number_of, verdict_of}
use Rattle.stage.specs.declared.StageKind.TheVariants as kind
use Rattle.stage.specs.Stages.{stage_as_opened}
use Rattle.recipe.specs.Records.{record_verdict, record_of, records_after}
use Rattle.pipeline.specs.Opening.{opened, refused, open_records, open_stages, chain_of, open_call}
use Rattle.opening.specs.Opening.{stage_verdict}

-- the float n and a half: m * 2 ^ e with the odd m of 2 * n + 1 halves
infixl 90 ◌·5
abbrev ◌·5 : ℕ → Float
n ·5 = fin false (2 * n + 1) (− 1)

-- frames of one channel
abbrev mono : List ℕ → List Frame
mono xs = map (λ (x : ℕ). pos x ∷ []) xs

-- (a) gain 16,384 on 1, -1, 3, -3: 1, 0, 2, -1
a : map (scaled (pos 16384)) (pos 1 ∷ − 1 ∷ pos 3 ∷ − 3 ∷ []) ≡ pos 1 ∷ pos 0 ∷ pos 2 ∷ − 1 ∷ []
unfolding scaled held
a = refl

-- (b) gain -32,768 on -32,768: 32,767
b : scaled (− 32768) (− 32768) ≡ pos 32767
unfolding scaled held
b = refl

-- (c) q15 33,554,433 kept as 33,554,432
c : held_factor (pos 33554433) ≡ pos 33554432
unfolding held_factor held
c = refl

-- (d) mono of (1, 2) is 2 since document 02's Q-6, of (-1, -2) is -2
d : map mixdown ((pos 1 ∷ pos 2 ∷ []) ∷ (− 1 ∷ − 2 ∷ []) ∷ []) ≡ (pos 2 ∷ []) ∷ (− 2 ∷ []) ∷ []
unfolding mean nearest_div
d = refl

-- (e) mix 32,767 and 1: 32,767
e : mixed (pos 32767) (pos 1) ≡ pos 32767
unfolding mixed held
e = refl

-- (f) 8,000 to 16,000 Hz, frames 0, 100, 50: 0, 50, 100, 75
f : resampled_whole (reduced 8000 16000) (mono (0 ∷ 100 ∷ 50 ∷ [])) ≡ mono (0 ∷ 50 ∷ 100 ∷ 75 ∷ [])
unfolding resampled_whole whole_outputs output_at blend interpolated reduced gcd largest_divisor
f = refl

-- cut after frame 0 the first call is 'nothing yet'
f-cut : resampled (reduced 8000 16000) opened_state (mono (0 ∷ [])) ≡ []
unfolding resampled carried_outputs outputs_from among first_at output_at reduced gcd largest_divisor
f-cut = refl

-- (g) 16,000 to 8,000 Hz, frames 10, 20, 30, 40: 10, 30
g : resampled_whole (reduced 16000 8000) (mono (10 ∷ 20 ∷ 30 ∷ 40 ∷ [])) ≡ mono (10 ∷ 30 ∷ [])
unfolding resampled_whole whole_outputs output_at blend interpolated reduced gcd largest_divisor
g = refl

-- (h) 1 to 3 Hz, frames 0, 3: 0, 1, 2
h : resampled_whole (reduced 1 3) (mono (0 ∷ 3 ∷ [])) ≡ mono (0 ∷ 1 ∷ 2 ∷ [])
unfolding resampled_whole whole_outputs output_at blend interpolated reduced gcd largest_divisor
h = refl

-- (i) DC block with r one half, mono, samples 100, 100, 0: 100, 50, -75
i : filtered (dc_tick (0 ·5)) (at_rest ∷ []) (mono (100 ∷ 100 ∷ 0 ∷ [])) ≡ (pos 100 ∷ []) ∷ (pos 50 ∷ []) ∷ (− 75 ∷ []) ∷ []
unfolding dc_tick round_sat half_up of_int add sub mul round
i = refl

-- (j) rounding 0.5, -0.5, 2.5, 32,767.5: 1, -1, 3, 32,767
j : map (rounded16) (0 ·5 ∷ neg (0 ·5) ∷ 2 ·5 ∷ 32767 ·5 ∷ []) ≡ pos 1 ∷ − 1 ∷ pos 3 ∷ pos 32767 ∷ []
unfolding round_sat half_up neg
j = refl

-- 'Baked in by haste': just under one half, (2^24 - 1) * 2^-25, where adding 0.5 in binary32 gives 1
just_under_half : rounded16 (fin false (2 ^ 24 - 1) (− 25)) ≡ pos 0
unfolding round_sat half_up
just_under_half = refl

gain_stages : (f : PcmFormat) → open_stages 8 f (0x06 ∷ 0x00 ∷ 0x01 ∷ 0x00 ∷ 0x00 ∷ 0x40 ∷ 0x00 ∷ 0x00 ∷ []) ≡ opened (stage_as_opened (kind.Gain (record { q15 = pos 16384 })) ∷ [])
unfolding open_stages open_records records_after record_verdict stage_verdict record_of
gain_stages f = refl

unknown_stage : (f : PcmFormat) → open_stages 8 f (0x02 ∷ 0x00 ∷ 0xff ∷ 0x00 ∷ []) ≡ refused UnknownStage
unfolding open_stages open_records records_after record_verdict
unknown_stage f = refl

-- (k) 06 00 01 00 00 40 00 00 is gain 16,384
k : (f : PcmFormat) → format_allowed f ≡ true
    → open_call f (0x06 ∷ 0x00 ∷ 0x01 ∷ 0x00 ∷ 0x00 ∷ 0x40 ∷ 0x00 ∷ 0x00 ∷ []) ≡ Ok (chain_of f (stage_as_opened (kind.Gain (record { q15 = pos 16384 })) ∷ []))
unfolding open_call
k f h = rw (h, gain_stages f)

-- (l) 02 00 FF 00: 6
l : (f : PcmFormat) → format_allowed f ≡ true → number_of (verdict_of (open_call f (0x02 ∷ 0x00 ∷ 0xff ∷ 0x00 ∷ []))) ≡ 6
unfolding open_call
l f h = rw (h, unknown_stage f)
