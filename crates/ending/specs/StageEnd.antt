-- A stage's end (document 02, Q-1): what it delivers of the frames that arrive, and then its last frame. Definitions only.
use Rattle.std.specs.Prelude.{List, [], ◌++◌, ℕ}
use Rattle.pcm.specs.Frames.{Frame}
use Rattle.ending.specs.ResamplerEnd.{resampler_end, end_frame_count}
use Rattle.stage.specs.declared.StageKind.{StageKind}
use Rattle.stage.specs.declared.StageKind.TheVariants as kind
use Rattle.stage.specs.declared.SoundMemory.{SoundMemory}
use Rattle.stage.specs.declared.Stage.{Stage}
use Rattle.stage.specs.Stages.{stage_out, stage_next}

-- what a stage adds at its end, in which ch channels arrive: a resampler of unequal rates its last frame, where an output falls on it;
-- every other stage nothing
abbrev pub last_of : ℕ → StageKind → SoundMemory → List Frame
last_of ch (kind.Gain g) m = []
last_of ch kind.MonoToStereo m = []
last_of ch kind.StereoToMono m = []
last_of ch (kind.Resample r) m = resampler_end ch r m.resampler
last_of ch (kind.DcBlock b) m = []
last_of ch (kind.Biquad b) m = []

-- what a stage delivers that takes xs and ends: all it makes of them, then its last frame
unfoldable pub stage_end : ℕ → Stage → List Frame → List Frame
stage_end ch s xs = stage_out s xs ++ last_of ch s.kind (stage_next s xs).memory

-- how many frames that is of n, from the phase alone
unfoldable pub frames_at_end : StageKind → SoundMemory → ℕ → ℕ
frames_at_end (kind.Gain g) m n = n
frames_at_end kind.MonoToStereo m n = n
frames_at_end kind.StereoToMono m n = n
frames_at_end (kind.Resample r) m n = end_frame_count r m.resampler.primed m.resampler.phase n
frames_at_end (kind.DcBlock b) m n = n
frames_at_end (kind.Biquad b) m n = n
