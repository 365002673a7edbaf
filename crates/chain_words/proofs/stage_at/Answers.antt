use Rattle.std.proofs.Common.{ap, ◌∙◌}
use Rattle.stage_words.specs.Layout.{stage_of}
use Rattle.stage_words.specs.laws.Reading.{stage_front}
use Rattle.chain_words.specs.Layout.{place_of}
use Rattle.chain_words.proofs.stage_at.Goals as goal

pub returns : goal.returns
returns c = c.stage_of.ensures ∙ ap stage_of c.words_at.ensures ∙ stage_front (place_of c.args.w.now c.args.i)
