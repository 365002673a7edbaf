-- `block::process` meets its contract. Assumes nothing.
use Rattle.block.proofs.Telling.{with_told}
use Rattle.block.proofs.process.Goals as goal

pub returns-clause-told : goal.returns-clause-told
returns-clause-told c = (with_told _ _ _ _ _ _ _ c.call-answer.ensures.all).1
