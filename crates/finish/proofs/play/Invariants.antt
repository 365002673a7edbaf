-- Where the stages ended so far have left the halves. Assumes nothing.
use Rattle.block.specs.BlockCall.{shorter}
use Rattle.turns.specs.Turns.{halves}
use Rattle.finish.proofs.Reaching.{EndReached}
use Rattle.finish.proofs.play.Given as goal

abbrev pub invariant-loop-i : goal.invariant-loop-i
invariant-loop-i g l = EndReached (g.C.Chain.chain l.fn.chain).stages l.fn.own.count l.fn.own.format (halves l.fn.a l.fn.b) (shorter l.fn.a l.fn.b) l.format l.len l.i (halves l.a l.b) l.clipped
