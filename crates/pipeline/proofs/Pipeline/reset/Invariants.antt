use Rattle.std.proofs.Common.{◌≡◌}
use Rattle.pipeline.proofs.ResetLaws.{cleared_front}
use Rattle.pipeline.proofs.Pipeline.reset.Given as goal

abbrev pub invariant-loop-s : goal.invariant-loop-s
invariant-loop-s l = l.s-items ≡ cleared_front l.s-index l.initial.s-items
