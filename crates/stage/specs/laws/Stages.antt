-- A stage makes nothing of nothing, and of a stream in two parts what it makes of the whole; so with what it holds back. Assumes nothing.
use Rattle.std.specs.Prelude.{◌≡◌, List, [], ◌++◌, map, ◌+◌, ◌≤◌, length}
use Rattle.std.proofs.Math.Path.{refl, ap}
use Rattle.std.proofs.Common.{◌∙◌, arith}
use Rattle.filters.specs.declared.FilterMemory.{FilterMemory}
use Rattle.pcm.specs.Frames.{Frame, flat}
use Rattle.pcm.specs.laws.Frames.{map_append, flat_append}
use Rattle.filters.specs.Filters.{taps_of}
use Rattle.filters.specs.laws.Filters.{filtered_append_memory, memory_next-append, filter_clipped_append_memory, filter_clipped_le}
use Rattle.gain.specs.Gain.{scaled}
use Rattle.gain.specs.Clipping.{clipped_in}
use Rattle.gain.specs.laws.Clipping.{clipped-nil, clipped-append, clipped_le}
use Rattle.channels.specs.Channels.{doubled, mixdown}
use Rattle.dc_block.specs.DcBlock.{dc_tick}
use Rattle.biquad.specs.Recurrence.{biquad_tick}
use Rattle.rates.specs.declared.ResamplerState.{ResamplerState}
use Rattle.resample.specs.laws.Cut.{resampled-nil, state-nil, resampled-append, state-append}
use Rattle.stage.specs.declared.StageKind.{StageKind}
use Rattle.stage.specs.declared.StageKind.TheVariants as kind
use Rattle.stage.specs.declared.SoundMemory.{SoundMemory}
use Rattle.stage.specs.declared.Stage.{Stage}
use Rattle.stage.specs.Stages.{out_of, keeps_of, clipped_of, stage_out, stage_next, stage_clipped, stage_clear}

-- ---- by kind
module _ (m : SoundMemory) where
  out-nil : (k : StageKind) → out_of k m [] ≡ []
  out-nil (kind.Gain g) = refl
  out-nil kind.MonoToStereo = refl
  out-nil kind.StereoToMono = refl
  out-nil (kind.Resample r) = resampled-nil r m.resampler
  out-nil (kind.DcBlock b) = refl
  out-nil (kind.Biquad b) = refl

  keeps-nil : (k : StageKind) → keeps_of k m [] ≡ m
  keeps-nil (kind.Gain g) = refl
  keeps-nil kind.MonoToStereo = refl
  keeps-nil kind.StereoToMono = refl
  keeps-nil (kind.Resample r) = ap (λ (s : ResamplerState). record { filter = m.filter; resampler = s }) (state-nil r m.resampler)
  keeps-nil (kind.DcBlock b) = refl
  keeps-nil (kind.Biquad b) = refl

  clipped_none : (k : StageKind) → clipped_of k m [] ≡ 0
  clipped_none (kind.Gain g) = clipped-nil g.q15
  clipped_none kind.MonoToStereo = refl
  clipped_none kind.StereoToMono = refl
  clipped_none (kind.Resample r) = refl
  clipped_none (kind.DcBlock b) = refl
  clipped_none (kind.Biquad b) = refl

  clipped_most : (xs : List Frame) (k : StageKind) → clipped_of k m xs ≤ length (flat xs)
  clipped_most xs (kind.Gain g) = clipped_le g.q15 (flat xs)
  clipped_most xs kind.MonoToStereo = omega arith
  clipped_most xs kind.StereoToMono = omega arith
  clipped_most xs (kind.Resample r) = omega arith
  clipped_most xs (kind.DcBlock b) = filter_clipped_le (dc_tick b.r) (taps_of m.filter) xs
  clipped_most xs (kind.Biquad b) = filter_clipped_le (biquad_tick b.coefficients) (taps_of m.filter) xs

  module _ (xs ys : List Frame) where
    clipped_parts : (k : StageKind) → clipped_of k m (xs ++ ys) ≡ clipped_of k m xs + clipped_of k (keeps_of k m xs) ys
    clipped_parts (kind.Gain g) = ap (clipped_in g.q15) (flat_append xs ys) ∙ clipped-append g.q15 (flat xs) (flat ys)
    clipped_parts kind.MonoToStereo = refl
    clipped_parts kind.StereoToMono = refl
    clipped_parts (kind.Resample r) = refl
    clipped_parts (kind.DcBlock b) = filter_clipped_append_memory (dc_tick b.r) m.filter xs ys
    clipped_parts (kind.Biquad b) = filter_clipped_append_memory (biquad_tick b.coefficients) m.filter xs ys

    out-append : (k : StageKind) → out_of k m (xs ++ ys) ≡ out_of k m xs ++ out_of k (keeps_of k m xs) ys
    out-append (kind.Gain g) = map_append (map (scaled g.q15)) xs ys
    out-append kind.MonoToStereo = map_append doubled xs ys
    out-append kind.StereoToMono = map_append mixdown xs ys
    out-append (kind.Resample r) = resampled-append r m.resampler xs ys
    out-append (kind.DcBlock b) = filtered_append_memory (dc_tick b.r) m.filter xs ys
    out-append (kind.Biquad b) = filtered_append_memory (biquad_tick b.coefficients) m.filter xs ys

    keeps-append : (k : StageKind) → keeps_of k m (xs ++ ys) ≡ keeps_of k (keeps_of k m xs) ys
    keeps-append (kind.Gain g) = refl
    keeps-append kind.MonoToStereo = refl
    keeps-append kind.StereoToMono = refl
    keeps-append (kind.Resample r) = ap (λ (s : ResamplerState). record { filter = m.filter; resampler = s }) (state-append r m.resampler xs ys)
    keeps-append (kind.DcBlock b) = ap (λ (n : FilterMemory). record { filter = n; resampler = m.resampler }) (memory_next-append (dc_tick b.r) m.filter xs ys)
    keeps-append (kind.Biquad b) = ap (λ (n : FilterMemory). record { filter = n; resampler = m.resampler }) (memory_next-append (biquad_tick b.coefficients) m.filter xs ys)

module _ (s : Stage) where
  pub stage_out-nil : stage_out s [] ≡ []
  unfolding stage_out
  stage_out-nil = out-nil s.memory s.kind

  pub stage_next-nil : stage_next s [] ≡ s
  unfolding stage_next
  stage_next-nil = ap (λ (m : SoundMemory). record { kind = s.kind; memory = m }) (keeps-nil s.memory s.kind)

  pub stage_out-append : (xs ys : List Frame) → stage_out s (xs ++ ys) ≡ stage_out s xs ++ stage_out (stage_next s xs) ys
  unfolding stage_out stage_next
  stage_out-append xs ys = out-append s.memory xs ys s.kind

  pub stage_next-append : (xs ys : List Frame) → stage_next s (xs ++ ys) ≡ stage_next (stage_next s xs) ys
  unfolding stage_next
  stage_next-append xs ys = ap (λ (m : SoundMemory). record { kind = s.kind; memory = m }) (keeps-append s.memory xs ys s.kind)

  -- what it holds back: nothing of nothing, of a stream in two parts the sum, and no more than the samples that arrive
  pub stage_clipped-nil : stage_clipped s [] ≡ 0
  unfolding stage_clipped
  stage_clipped-nil = clipped_none s.memory s.kind

  pub stage_clipped-append : (xs ys : List Frame) → stage_clipped s (xs ++ ys) ≡ stage_clipped s xs + stage_clipped (stage_next s xs) ys
  unfolding stage_clipped stage_next
  stage_clipped-append xs ys = clipped_parts s.memory xs ys s.kind

  pub stage_clipped_le : (xs : List Frame) → stage_clipped s xs ≤ length (flat xs)
  unfolding stage_clipped
  stage_clipped_le xs = clipped_most s.memory xs s.kind

  pub stage_clear_next : (xs : List Frame) → stage_clear (stage_next s xs) ≡ stage_clear s
  unfolding stage_next
  stage_clear_next xs = refl
