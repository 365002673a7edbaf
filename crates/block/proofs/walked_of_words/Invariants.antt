-- What the walk has found before each stage. Assumes nothing.
use Rattle.block.specs.laws.Asking.{Asks}
use Rattle.chain_words.specs.Layout.{chain_at}
use Rattle.block.proofs.walked_of_words.Given as goal

abbrev pub invariant-loop-i : goal.invariant-loop-i
invariant-loop-i l = Asks l.fn.asking.question l.fn.asking.shorter l.fn.start.format.rate (chain_at l.fn.words).stages l.fn.count l.fn.start l.walk l.i
