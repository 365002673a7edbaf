use Rattle.std.proofs.Common.{◌∙◌}
use Rattle.chains.proofs.Words.{stage_is}
use Rattle.chains.proofs.WordsChain.stage.Goals as goal

pub returns : goal.returns
returns c = c.stage_at.ensures ∙ stage_is _ _ c.requires
