-- The turn of a stage that ends (document 02, Q-1): what it asks of the bytes that arrive and of its half, and what it delivers. Definitions only.
use Rattle.std.specs.Prelude.{◌≡◌, true, List, ℕ, ◌*◌, ◌/◌, ◌%◌, ◌≤◌, length}
use Rattle.pcm.specs.declared.PcmFormat.{PcmFormat}
use Rattle.pcm.specs.Formats.{OneOrTwo}
use Rattle.pcm.specs.Frames.{Frame, FramesOf, bytes_of, written}
use Rattle.stage.specs.declared.Stage.{Stage}
use Rattle.stage.specs.Stages.{stage_clipped, format_after}
use Rattle.stage.specs.Rooms.{stage_suits}
use Rattle.ending.specs.StageEnd.{stage_end, frames_at_end}

-- the frames fs stand at the front of `after`, which is as it was past them, in so many bytes
pub record Fronted (fs : List Frame) (before after : List ℕ) (bytes : ℕ) : Type 0 where
  pub size : bytes ≡ length (bytes_of fs)
  pub bytes_are : after ≡ written (bytes_of fs) before

-- whole frames of one or two channels to read, or none, in a format that suits the stage, and room for what it delivers
pub record ServedToEnd (f : PcmFormat) (s : Stage) (source target : List ℕ) : Type 0 where
  pub suit : stage_suits f s.kind s.memory ≡ true
  pub channels : OneOrTwo f.channels
  pub whole : length source % (f.channels * 2) ≡ 0
  pub room : frames_at_end s.kind s.memory (length source / (f.channels * 2)) * ((format_after f s.kind).channels * 2) ≤ length target

-- what a stage that takes the frames xs and ends delivers to the front of its half, and holds back
pub record ServesToEnd (f : PcmFormat) (s : Stage) (xs : List Frame) (len clipped : ℕ) (before after : List ℕ) : Type 0 where
  pub fronted : Fronted (stage_end f.channels s xs) before after len
  pub frames : FramesOf f.channels xs → FramesOf (format_after f s.kind).channels (stage_end f.channels s xs)
  pub holds : clipped ≡ stage_clipped s xs
