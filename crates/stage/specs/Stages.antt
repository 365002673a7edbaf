-- A stage on frames: what it makes of them, what it keeps and how many samples it holds back, the format that leaves it (document 01, 'The
-- whole stream'; document 02, Q-2). Assumes nothing.
use Rattle.std.specs.Prelude.{Bool, true, false, List, map, ℕ}
use Rattle.pcm.specs.declared.PcmFormat.{PcmFormat}
use Rattle.pcm.specs.Frames.{Frame, flat}
use Rattle.filters.specs.Filters.{taps_of, filtered, filter_clipped, memory_next, memory_at_rest}
use Rattle.gain.specs.Gain.{scaled}
use Rattle.gain.specs.Clipping.{clipped_in}
use Rattle.channels.specs.Channels.{doubled, mixdown}
use Rattle.dc_block.specs.DcBlock.{dc_tick}
use Rattle.biquad.specs.Recurrence.{biquad_tick}
use Rattle.rates.specs.Rates.{opened_state}
use Rattle.resample.specs.Resample.{resampled, state_after}
use Rattle.stage.specs.declared.StageKind.{StageKind}
use Rattle.stage.specs.declared.StageKind.TheVariants as kind
use Rattle.stage.specs.declared.SoundMemory.{SoundMemory}
use Rattle.stage.specs.declared.Stage.{Stage}

-- ---- what a stage makes of frames, and the memory afterwards
abbrev pub out_of : StageKind → SoundMemory → List Frame → List Frame
out_of (kind.Gain g) m xs = map (map (scaled g.q15)) xs
out_of kind.MonoToStereo m xs = map doubled xs
out_of kind.StereoToMono m xs = map mixdown xs
out_of (kind.Resample r) m xs = resampled r m.resampler xs
out_of (kind.DcBlock b) m xs = filtered (dc_tick b.r) (taps_of m.filter) xs
out_of (kind.Biquad b) m xs = filtered (biquad_tick b.coefficients) (taps_of m.filter) xs

-- gain and the channel stages keep nothing
abbrev pub keeps_of : StageKind → SoundMemory → List Frame → SoundMemory
keeps_of (kind.Gain g) m xs = m
keeps_of kind.MonoToStereo m xs = m
keeps_of kind.StereoToMono m xs = m
keeps_of (kind.Resample r) m xs = record { filter = m.filter; resampler = state_after r m.resampler xs }
keeps_of (kind.DcBlock b) m xs = record { filter = memory_next (dc_tick b.r) m.filter xs; resampler = m.resampler }
keeps_of (kind.Biquad b) m xs = record { filter = memory_next (biquad_tick b.coefficients) m.filter xs; resampler = m.resampler }

-- how many samples it holds back; the channel stages and the resampler hold nothing back
abbrev pub clipped_of : StageKind → SoundMemory → List Frame → ℕ
clipped_of (kind.Gain g) m xs = clipped_in g.q15 (flat xs)
clipped_of kind.MonoToStereo m xs = 0
clipped_of kind.StereoToMono m xs = 0
clipped_of (kind.Resample r) m xs = 0
clipped_of (kind.DcBlock b) m xs = filter_clipped (dc_tick b.r) (taps_of m.filter) xs
clipped_of (kind.Biquad b) m xs = filter_clipped (biquad_tick b.coefficients) (taps_of m.filter) xs

abbrev pub remembers : StageKind → Bool
remembers (kind.Gain g) = false
remembers kind.MonoToStereo = false
remembers kind.StereoToMono = false
remembers (kind.Resample r) = true
remembers (kind.DcBlock b) = true
remembers (kind.Biquad b) = true

unfoldable pub stage_out : Stage → List Frame → List Frame
stage_out s xs = out_of s.kind s.memory xs

unfoldable pub stage_next : Stage → List Frame → Stage
stage_next s xs = record { kind = s.kind; memory = keeps_of s.kind s.memory xs }

unfoldable pub stage_clipped : Stage → List Frame → ℕ
stage_clipped s xs = clipped_of s.kind s.memory xs

-- ---- the kinds of stages, in chain order
abbrev pub kinds_of : List Stage → List StageKind
kinds_of l = map (λ (s : Stage). s.kind) l

-- ---- as opened, and cleared by a reset
abbrev pub memory_as_opened : SoundMemory
memory_as_opened = record { filter = memory_at_rest; resampler = opened_state }

abbrev pub stage_as_opened : StageKind → Stage
stage_as_opened k = record { kind = k; memory = memory_as_opened }

abbrev pub stage_clear : Stage → Stage
stage_clear s = stage_as_opened s.kind

-- ---- the format that leaves a stage
abbrev pub format_after : PcmFormat → StageKind → PcmFormat
format_after f (kind.Gain g) = f
format_after f kind.MonoToStereo = record { rate = f.rate; channels = 2 }
format_after f kind.StereoToMono = record { rate = f.rate; channels = 1 }
format_after f (kind.Resample r) = record { rate = r.out_rate; channels = f.channels }
format_after f (kind.DcBlock b) = f
format_after f (kind.Biquad b) = f
