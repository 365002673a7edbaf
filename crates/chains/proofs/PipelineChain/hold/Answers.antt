use Rattle.std.proofs.Common.{sym, ◌∙◌}
use Rattle.chains.proofs.Stages.{stayed}
use Rattle.chains.proofs.PipelineChain.hold.Goals as goal

pub returns-else-remembers-clause-is : goal.returns-else-remembers-clause-is
returns-else-remembers-clause-is c = stayed _ _ _ c.requires.follows (sym c.remembers.ensures ∙ c.if-remembers.false)
