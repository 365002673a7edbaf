-- What the walk has found before each stage. Assumes nothing.
use Rattle.block.specs.laws.Asking.{Asks}
use Rattle.block.proofs.walked.Given as goal

abbrev pub invariant-loop-i : goal.invariant-loop-i
invariant-loop-i g l = Asks l.fn.asking.question l.fn.asking.shorter l.fn.start.format.rate (g.C.Chain.chain l.fn.chain).stages l.fn.own.count l.fn.start l.walk l.i
