use Rattle.std.proofs.Common.{◌≡◌, take}
use Rattle.pipeline.specs.Reset.{format_leaving}
use Rattle.pipeline.proofs.Pipeline.output_format.Given as goal

abbrev pub invariant-loop-s : goal.invariant-loop-s
invariant-loop-s l = l.leaving ≡ format_leaving l.initial.leaving (take l.s-index l.s-items)
