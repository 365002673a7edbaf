-- `finish::finish` meets its contract. Assumes nothing.
use Rattle.finish.proofs.Telling.{with_told}
use Rattle.finish.proofs.finish.Goals as goal

pub returns-clause-told : goal.returns-clause-told
returns-clause-told c = with_told _ _ _ _ c.call-answer.ensures.all
