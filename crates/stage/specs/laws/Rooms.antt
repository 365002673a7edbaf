-- What a stage that suits its format has: rates within their limits, counts within the room wanted, frames of frames. Assumes nothing.
use Rattle.std.specs.Prelude.{◌≡◌, true, ◌&&◌, List, map, ℕ, ◌≤◌, ◌<◌, eqb, leb, ltb, length}
use Rattle.std.proofs.Math.Nat.{le_refl}
use Rattle.std.proofs.Common.{le_trans, arith, leb-true, ltb-true, eqb-true}
use Rattle.std.proofs.Math.ListN.{length-map}
use Rattle.pcm.specs.declared.PcmFormat.{PcmFormat}
use Rattle.pcm.specs.Samples.{Samples}
use Rattle.pcm.specs.Frames.{Frame, FrameOf, FramesOf}
use Rattle.pcm.specs.laws.Frames.{all_map}
use Rattle.filters.specs.Filters.{taps_of}
use Rattle.filters.specs.laws.Filters.{length_filtered, filtered_are_frames}
use Rattle.gain.specs.Gain.{scaled}
use Rattle.gain.specs.laws.Gain.{scaled_frame}
use Rattle.channels.specs.Channels.{doubled, mixdown}
use Rattle.channels.specs.laws.Channels.{doubled_frame, mixdown_frame}
use Rattle.dc_block.specs.DcBlock.{dc_tick}
use Rattle.biquad.specs.Recurrence.{biquad_tick}
use Rattle.rates.specs.declared.LinearResampler.{LinearResampler}
use Rattle.rates.specs.Rates.{rates_allowed, Rates}
use Rattle.rates.specs.laws.Rates.{rates_within}
use Rattle.rates.specs.Theorems.{room_holds}
use Rattle.resample.specs.laws.Delivered.{resampled_count_lem}
use Rattle.resample.proofs.laws.Neighbours.{resampled_frames}
use Rattle.stage.specs.declared.StageKind.{StageKind}
use Rattle.stage.specs.declared.StageKind.TheVariants as kind
use Rattle.stage.specs.declared.SoundMemory.{SoundMemory}
use Rattle.stage.specs.declared.Stage.{Stage}
use Rattle.stage.specs.Stages.{out_of, stage_out, format_after}
use Rattle.pcm.specs.laws.Tests.{both}
use Rattle.stage.specs.Rooms.{rates_suit, stage_suits, frames_out, frames_wanted, Resamples, Bounded, Held}

pub rates_suit_lem : (r : LinearResampler) → rates_suit r ≡ true → Rates r
unfolding rates_suit
rates_suit_lem r h =
    let a = both (rates_allowed r.in_rate r.out_rate) _ h in
    let b = both (ltb 0 r.in_r && leb r.in_r r.in_rate) _ a.1 in
    let c = both (ltb 0 r.out_r && leb r.out_r r.out_rate) _ b.1 in
    let i = both (ltb 0 r.in_r) _ b.0 in
    let o = both (ltb 0 r.out_r) _ c.0 in
    let w = rates_within r.in_rate r.out_rate a.0 in
    record {
      input_rate = w.0;
      output_rate = w.1;
      in_r = (ltb-true _ _ i.0, le_trans (leb-true _ _ i.1) w.0.1);
      out_r = (ltb-true _ _ o.0, le_trans (leb-true _ _ o.1) w.1.1);
      same_ratio = eqb-true _ _ c.1;
    }

pub resamples : (f : PcmFormat) (r : LinearResampler) (m : SoundMemory) → stage_suits f (kind.Resample r) m ≡ true → Resamples f r m
unfolding stage_suits
resamples f r m h =
    let a = both (rates_suit r) _ h in
    let b = both (eqb f.rate r.in_rate) _ a.1 in
    record { rates = rates_suit_lem r a.0; reached = eqb-true _ _ b.0; phase = ltb-true _ _ b.1 }

pub suits_bounded : (f : PcmFormat) (k : StageKind) (m : SoundMemory) → stage_suits f k m ≡ true → Bounded k
suits_bounded f (kind.Gain g) m h = tt
suits_bounded f kind.MonoToStereo m h = tt
suits_bounded f kind.StereoToMono m h = tt
suits_bounded f (kind.Resample r) m h = (resamples f r m h).rates
suits_bounded f (kind.DcBlock b) m h = tt
suits_bounded f (kind.Biquad b) m h = tt

pub samples_held : (k : StageKind) (m : SoundMemory) → Samples m.resampler.last → Held k m
samples_held (kind.Gain g) m h = tt
samples_held kind.MonoToStereo m h = tt
samples_held kind.StereoToMono m h = tt
samples_held (kind.Resample r) m h = h
samples_held (kind.DcBlock b) m h = tt
samples_held (kind.Biquad b) m h = tt

-- ---- counts and room
module _ (f : PcmFormat) (m : SoundMemory) where
  count_of : (k : StageKind) (xs : List Frame) → length (out_of k m xs) ≡ frames_out k m (length xs)
  unfolding frames_out
  count_of (kind.Gain g) xs = length-map xs (map (scaled g.q15))
  count_of kind.MonoToStereo xs = length-map xs doubled
  count_of kind.StereoToMono xs = length-map xs mixdown
  count_of (kind.Resample r) xs = resampled_count_lem r m.resampler xs
  count_of (kind.DcBlock b) xs = length_filtered (dc_tick b.r) (taps_of m.filter) xs
  count_of (kind.Biquad b) xs = length_filtered (biquad_tick b.coefficients) (taps_of m.filter) xs

  pub wanted_holds : (k : StageKind) (n : ℕ) → stage_suits f k m ≡ true → frames_out k m n ≤ frames_wanted k n
  unfolding frames_out frames_wanted
  wanted_holds (kind.Gain g) n h = le_refl n
  wanted_holds kind.MonoToStereo n h = le_refl n
  wanted_holds kind.StereoToMono n h = le_refl n
  wanted_holds (kind.Resample r) n h = room_holds r (resamples f r m h).rates n m.resampler.primed m.resampler.phase
  wanted_holds (kind.DcBlock b) n h = le_refl n
  wanted_holds (kind.Biquad b) n h = le_refl n

  -- frames of frames
  frames_of_lem : (k : StageKind) (xs : List Frame) → stage_suits f k m ≡ true → Held k m → FramesOf f.channels xs → FramesOf (format_after f k).channels (out_of k m xs)
  unfolding stage_suits
  frames_of_lem (kind.Gain g) xs h s a = all_map (FrameOf f.channels) (FrameOf f.channels) (map (scaled g.q15)) (λ x k. scaled_frame f.channels g.q15 x k) xs a
  frames_of_lem kind.MonoToStereo xs h s a = all_map (FrameOf f.channels) (FrameOf 2) doubled (λ x k. doubled_frame x (rw (eqb-true f.channels 1 h) at k)) xs a
  frames_of_lem kind.StereoToMono xs h s a = all_map (FrameOf f.channels) (FrameOf 1) mixdown (λ x k. mixdown_frame x (rw (eqb-true f.channels 2 h) at k)) xs a
  frames_of_lem (kind.Resample r) xs h s a = resampled_frames f.channels r m.resampler xs s a
  frames_of_lem (kind.DcBlock b) xs h s a = filtered_are_frames (dc_tick b.r) f.channels (taps_of m.filter) xs a
  frames_of_lem (kind.Biquad b) xs h s a = filtered_are_frames (biquad_tick b.coefficients) f.channels (taps_of m.filter) xs a

pub stage_count : (s : Stage) (xs : List Frame) → length (stage_out s xs) ≡ frames_out s.kind s.memory (length xs)
unfolding stage_out
stage_count s xs = count_of (record { rate = 0; channels = 0 }) s.memory s.kind xs

pub held_frames : (f : PcmFormat) (s : Stage) (xs : List Frame) → stage_suits f s.kind s.memory ≡ true → Held s.kind s.memory
    → FramesOf f.channels xs → FramesOf (format_after f s.kind).channels (stage_out s xs)
unfolding stage_out
held_frames f s xs h k a = frames_of_lem f s.memory s.kind xs h k a

pub stage_frames : (f : PcmFormat) (s : Stage) (xs : List Frame) → stage_suits f s.kind s.memory ≡ true → Samples s.memory.resampler.last
    → FramesOf f.channels xs → FramesOf (format_after f s.kind).channels (stage_out s xs)
stage_frames f s xs h k a = held_frames f s xs h (samples_held s.kind s.memory k) a

pub channels_after : (f : PcmFormat) (k : StageKind) → (0 < f.channels) × (f.channels ≤ 2) → (0 < (format_after f k).channels) × ((format_after f k).channels ≤ 2)
channels_after f (kind.Gain g) h = h
channels_after f kind.MonoToStereo h = (omega arith, omega arith)
channels_after f kind.StereoToMono h = (omega arith, omega arith)
channels_after f (kind.Resample r) h = h
channels_after f (kind.DcBlock b) h = h
channels_after f (kind.Biquad b) h = h
