use Rattle.std.proofs.Common.{sym, ap, ◌∙◌}
use Rattle.pipeline.specs.declared.Pipeline.{Pipeline}
use Rattle.block.specs.BlockCall.{scratch_bytes}
use Rattle.muzgleur.specs.Results.{scratch_result}
use Rattle.muzgleur.proofs.Answered.{few_scratch}
use Rattle.muzgleur.proofs.Cut.{chain_is}
use Rattle.muzgleur.proofs.muzgleur_scratch_bytes.Goals as goal

pub returns-in_default : goal.returns-in_default
returns-in_default c = c.from.ensures ∙ ap scratch_result (few_scratch _ c.in_default.ensures.cases _)

pub returns : goal.returns
returns c = c.from-2.ensures ∙ ap scratch_result (c.scratch_of.ensures ∙ ap (λ (d : Pipeline). scratch_bytes d c.args.size) (sym (chain_is _ _ c.in-Some.ensures.cases)))
