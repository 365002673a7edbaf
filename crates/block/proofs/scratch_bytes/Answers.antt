-- `block::scratch_bytes` meets its contract. Assumes nothing.
use Rattle.block.proofs.Telling.{with_value}
use Rattle.block.proofs.scratch_bytes.Goals as goal

pub returns-clause-told : goal.returns-clause-told
returns-clause-told c = (with_value _ _ _ c.scratch_of.ensures).1
