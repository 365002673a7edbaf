-- What the walk of a finish answers, an accepted finish, and one stage's turn between the halves. Definitions only.
use Rattle.std.specs.Prelude.{◌≡◌, true, List, ℕ, length, Result, Ok, Err}
use Rattle.pcm.specs.declared.PcmFormat.{PcmFormat}
use Rattle.pcm.specs.declared.Error.{Error}
use Rattle.pcm.specs.Refusals.{Verdict}
use Rattle.pcm.specs.Frames.{Frame, FramesOf, bytes_of}
use Rattle.stage.specs.declared.Stage.{Stage}
use Rattle.stage.specs.Stages.{stage_clipped, format_after}
use Rattle.ending.specs.StageEnd.{stage_end}
use Rattle.pipeline.specs.declared.Pipeline.{Pipeline}
use Rattle.questions.specs.declared.Walk.{Walk}
use Rattle.questions.specs.Walk.{short_verdict}
use Rattle.turns.specs.Turns.{Halves}
use Rattle.block.specs.BlockCall.{put, legal, shorter}
use Rattle.pipeline.specs.WritingBack.{stages_of}
use Rattle.finish.specs.FinishCall.{end_verdict}

-- Is every stage legal? else 1. Room? else 3, with needed = twice the room of the first stage short
unfoldable pub end_from : Result Walk Error → Verdict
end_from (Ok w) = short_verdict w.short
end_from (Err e) = Err e

-- stage i + 1 has taken xs and ended: so many bytes stand at the front of its half, no other byte has changed, and so many samples were held back
pub record EndTurn (f : PcmFormat) (s : Stage) (xs : List Frame) (i len clipped : ℕ) (before after : Halves) : Type 0 where
  pub size : len ≡ length (bytes_of (stage_end f.channels s xs))
  pub gives : after ≡ put i (bytes_of (stage_end f.channels s xs)) before
  pub frames : FramesOf f.channels xs → FramesOf (format_after f s.kind).channels (stage_end f.channels s xs)
  pub holds : clipped ≡ stage_clipped s xs

-- a finish whose questions were all answered yes
pub record Finishes (c : Pipeline) (a b : List ℕ) : Type 0 where
  pub chain : legal c ≡ true
  pub room : end_verdict c.format (stages_of c) 0 (shorter a b) ≡ Ok tt
