-- Which stages suit a format, how many frames a stage delivers, the room that it wants, and its turn (document 01, pipeline.rs).
-- Assumes nothing.
use Rattle.std.specs.Prelude.{◌≡◌, Bool, true, ◌&&◌, List, ℕ, ◌*◌, ◌/◌, ◌%◌, ◌≤◌, ◌<◌, eqb, leb, ltb, length}
use Rattle.pcm.specs.declared.PcmFormat.{PcmFormat}
use Rattle.pcm.specs.Formats.{OneOrTwo}
use Rattle.pcm.specs.Samples.{Samples}
use Rattle.pcm.specs.Frames.{Frame, FramesOf, bytes_of, written}
use Rattle.gain.specs.Gain.{factor_allowed}
use Rattle.rates.specs.declared.LinearResampler.{LinearResampler}
use Rattle.rates.specs.Rates.{resampled_count, rates_allowed, room_frames, Rates}
use Rattle.stage.specs.declared.StageKind.{StageKind}
use Rattle.stage.specs.declared.StageKind.TheVariants as kind
use Rattle.stage.specs.declared.SoundMemory.{SoundMemory}
use Rattle.stage.specs.declared.Stage.{Stage}
use Rattle.stage.specs.Stages.{stage_out, stage_next, format_after}

-- rates within their limit, and in_r and out_r of the same ratio and no larger
unfoldable pub rates_suit : LinearResampler → Bool
rates_suit r =
    rates_allowed r.in_rate r.out_rate
    && ((ltb 0 r.in_r && leb r.in_r r.in_rate)
    && ((ltb 0 r.out_r && leb r.out_r r.out_rate) && eqb (r.in_r * r.out_rate) (r.out_r * r.in_rate)))

-- what the block call needs of a stage that this format reaches: settings within their limits, a format that suits, a phase below in_r
unfoldable pub stage_suits : PcmFormat → StageKind → SoundMemory → Bool
stage_suits f (kind.Gain g) m = factor_allowed g.q15
stage_suits f kind.MonoToStereo m = eqb f.channels 1
stage_suits f kind.StereoToMono m = eqb f.channels 2
stage_suits f (kind.Resample r) m = rates_suit r && (eqb f.rate r.in_rate && ltb m.resampler.phase r.in_r)
stage_suits f (kind.DcBlock b) m = true
stage_suits f (kind.Biquad b) m = eqb f.rate b.rate

-- how many frames a stage delivers of n, from the phase alone
unfoldable pub frames_out : StageKind → SoundMemory → ℕ → ℕ
frames_out (kind.Gain g) m n = n
frames_out kind.MonoToStereo m n = n
frames_out kind.StereoToMono m n = n
frames_out (kind.Resample r) m n = resampled_count r m.resampler.primed m.resampler.phase n
frames_out (kind.DcBlock b) m n = n
frames_out (kind.Biquad b) m n = n

-- the frames that a stage wants room for
unfoldable pub frames_wanted : StageKind → ℕ → ℕ
frames_wanted (kind.Gain g) n = n
frames_wanted kind.MonoToStereo n = n
frames_wanted kind.StereoToMono n = n
frames_wanted (kind.Resample r) n = room_frames r.in_rate r.out_rate n
frames_wanted (kind.DcBlock b) n = n
frames_wanted (kind.Biquad b) n = n

-- room wanted: the resampler's, mono to stereo twice the bytes, stereo to mono half, others the same
unfoldable pub room_wanted : PcmFormat → StageKind → ℕ → ℕ
room_wanted f k n = frames_wanted k n * ((format_after f k).channels * 2)

-- a resampler that suits the format
pub record Resamples (f : PcmFormat) (r : LinearResampler) (m : SoundMemory) : Type 0 where
  pub rates : Rates r
  pub reached : f.rate ≡ r.in_rate
  pub phase : m.resampler.phase < r.in_r

-- no more frames than reach a stage of a chain: (8,192 + 768,000 * 8) * 384,000 is less
abbrev pub FewFrames : ℕ → Type 0
FewFrames frames = frames ≤ 2400000000000

-- a resampler's rates are within their limits; other kinds have none
abbrev pub Bounded : StageKind → Type 0
Bounded (kind.Gain g) = Unit {0}
Bounded kind.MonoToStereo = Unit {0}
Bounded kind.StereoToMono = Unit {0}
Bounded (kind.Resample r) = Rates r
Bounded (kind.DcBlock b) = Unit {0}
Bounded (kind.Biquad b) = Unit {0}

-- a resampler's newest frame is of samples; other kinds have none
abbrev pub Held : StageKind → SoundMemory → Type 0
Held (kind.Gain g) m = Unit {0}
Held kind.MonoToStereo m = Unit {0}
Held kind.StereoToMono m = Unit {0}
Held (kind.Resample r) m = Samples m.resampler.last
Held (kind.DcBlock b) m = Unit {0}
Held (kind.Biquad b) m = Unit {0}

-- ---- a stage's turn
-- whole frames of one or two channels to read, at least one, in a format that suits the stage, and room for what it delivers
pub record Served (f : PcmFormat) (s : Stage) (source target : List ℕ) : Type 0 where
  pub suit : stage_suits f s.kind s.memory ≡ true
  pub channels : OneOrTwo f.channels
  pub some : 0 < length source
  pub whole : length source % (f.channels * 2) ≡ 0
  pub room : frames_out s.kind s.memory (length source / (f.channels * 2)) * ((format_after f s.kind).channels * 2) ≤ length target

-- what a stage delivers of the frames xs to the front of its half, and keeps
pub record Serves (f : PcmFormat) (s next : Stage) (xs : List Frame) (len : ℕ) (before after : List ℕ) : Type 0 where
  pub keeps : next ≡ stage_next s xs
  pub size : len ≡ length (bytes_of (stage_out s xs))
  pub gives : after ≡ written (bytes_of (stage_out s xs)) before
  pub frames : FramesOf f.channels xs → FramesOf (format_after f s.kind).channels (stage_out s xs)
