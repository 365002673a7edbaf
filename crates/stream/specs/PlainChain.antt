-- The plain chain (document 01, 'The whole stream'): each stage's definition on all that it has received since it was opened. Definitions only.
use Rattle.std.specs.Prelude.{List, [], ◌∷◌, map, ℕ, suc, take}
use Rattle.pcm.specs.Frames.{Frame}
use Rattle.filters.specs.Filters.{taps_of, filtered, memory_next, memory_at_rest}
use Rattle.gain.specs.Gain.{scaled}
use Rattle.channels.specs.Channels.{doubled, mixdown}
use Rattle.dc_block.specs.DcBlock.{dc_tick}
use Rattle.biquad.specs.Recurrence.{biquad_tick}
use Rattle.rates.specs.Rates.{opened_state}
use Rattle.resample.specs.Resample.{resampled_whole, state_whole}
use Rattle.stage.specs.declared.StageKind.{StageKind}
use Rattle.stage.specs.declared.StageKind.TheVariants as kind
use Rattle.stage.specs.declared.SoundMemory.{SoundMemory}
use Rattle.stage.specs.declared.Stage.{Stage}
use Rattle.stage.specs.Stages.{memory_as_opened}

-- ---- one stage
-- what a stage that has received X has delivered: a resampler of unequal rates each output k with k * in_r < (T - 1) * out_r;
-- the filters start each channel with x1, x2, y1, y2 at +0
unfoldable pub plain_stage : StageKind → List Frame → List Frame
plain_stage (kind.Gain g) X = map (map (scaled g.q15)) X
plain_stage kind.MonoToStereo X = map doubled X
plain_stage kind.StereoToMono X = map mixdown X
plain_stage (kind.Resample r) X = resampled_whole r X
plain_stage (kind.DcBlock b) X = filtered (dc_tick b.r) (taps_of memory_at_rest) X
plain_stage (kind.Biquad b) X = filtered (biquad_tick b.coefficients) (taps_of memory_at_rest) X

-- its sound state then; gain and the channel stages keep nothing
unfoldable pub plain_memory : StageKind → List Frame → SoundMemory
plain_memory (kind.Gain g) X = memory_as_opened
plain_memory kind.MonoToStereo X = memory_as_opened
plain_memory kind.StereoToMono X = memory_as_opened
plain_memory (kind.Resample r) X = record { filter = memory_at_rest; resampler = state_whole r X }
plain_memory (kind.DcBlock b) X = record { filter = memory_next (dc_tick b.r) memory_at_rest X; resampler = opened_state }
plain_memory (kind.Biquad b) X = record { filter = memory_next (biquad_tick b.coefficients) memory_at_rest X; resampler = opened_state }

-- ---- the chain
-- stage 1 takes the whole stream, each later stage all that the one before makes of it; the stream itself where there are no stages
unfoldable pub through : (StageKind → List Frame → List Frame) → List StageKind → List Frame → List Frame
through makes [] X = X
through makes (k ∷ ks) X = through makes ks (makes k X)

abbrev pub plain_out : List StageKind → List Frame → List Frame
plain_out ks X = through plain_stage ks X

-- every stage with its sound state
unfoldable pub plain_state : List StageKind → List Frame → List Stage
plain_state [] X = []
plain_state (k ∷ ks) X = record { kind = k; memory = plain_memory k X } ∷ plain_state ks (plain_stage k X)

-- what a stage takes it has received, what it makes it has delivered: the stage with i stages before it
abbrev pub received_by : ℕ → List StageKind → List Frame → List Frame
received_by i ks X = plain_out (take i ks) X

abbrev pub delivered_by : ℕ → List StageKind → List Frame → List Frame
delivered_by i ks X = plain_out (take (suc i) ks) X
