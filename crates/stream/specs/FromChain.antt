-- A stream's run from whatever chain it began with: opening, reset and finish only say where a stream begins. Definitions only.
use Rattle.std.specs.Prelude.{◌≡◌, List, map}
use Rattle.pcm.specs.Frames.{Frame, FramesOf, bytes_of}
use Rattle.stage.specs.Stages.{stage_clear}
use Rattle.pipeline.specs.declared.Pipeline.{Pipeline}
use Rattle.pipeline.specs.WritingBack.{stages_of}
use Rattle.block.specs.Chain.{chain_out, chain_next, chain_clipped}
use Rattle.finish.specs.FinishCall.{chain_end, end_clipped}
use Rattle.stream.specs.Calls.{Run}
use Rattle.stream.specs.OneCall.{Moved}

-- the run r of a stream that began with the chain o and has been fed X
pub record Since (o : Pipeline) (X : List Frame) (r : Run) : Type 0 where
  pub output : r.joined ≡ bytes_of (chain_out (stages_of o) X)
  pub clipped : r.clipped ≡ chain_clipped (stages_of o) X
  pub moved : Moved o r.chain (chain_next (stages_of o) X)
  pub frames : FramesOf o.format.channels X

-- the same, where an accepted finish has ended the stream
pub record EndedSince (o : Pipeline) (X : List Frame) (r : Run) : Type 0 where
  pub output : r.joined ≡ bytes_of (chain_end o.format (stages_of o) X)
  pub clipped : r.clipped ≡ end_clipped o.format (stages_of o) X
  pub moved : Moved o r.chain (map stage_clear (stages_of o))
  pub frames : FramesOf o.format.channels X
