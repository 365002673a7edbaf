-- The format that leaves a chain, and reset (document 01, pipeline.rs). A chain of more than eight stages, which no call returns, is left as it is. Definitions only.
use Rattle.std.specs.Prelude.{cond, List, [], ◌∷◌, ◌++◌, map, leb, drop}
use Rattle.pcm.specs.declared.PcmFormat.{PcmFormat}
use Rattle.stage.specs.declared.Stage.{Stage}
use Rattle.stage.specs.Stages.{format_after, stage_clear}
use Rattle.pipeline.specs.declared.Pipeline.{Pipeline}
use Rattle.pipeline.specs.WritingBack.{stages_of}

-- the format that leaves the last of these stages
unfoldable pub format_leaving : PcmFormat → List Stage → PcmFormat
format_leaving f [] = f
format_leaving f (s ∷ ss) = format_leaving (format_after f s.kind) ss

unfoldable pub output_format : Pipeline → PcmFormat
output_format c = cond (leb c.count 8) (format_leaving c.format (stages_of c)) c.format

-- reset clears sound state, not counters
unfoldable pub reset_call : Pipeline → Pipeline
reset_call c =
    cond (leb c.count 8)
    (record { stages = map stage_clear (stages_of c) ++ drop c.count c.stages; count = c.count; format = c.format; blocks = c.blocks; empty_blocks = c.empty_blocks })
    c
