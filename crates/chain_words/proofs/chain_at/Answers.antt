use Rattle.std.proofs.Common.{List, sym, subst}
use Rattle.pcm.specs.Samples.{All}
use Rattle.stage.specs.declared.Stage.{Stage}
use Rattle.stage_words.specs.Storable.{Small}
use Rattle.chain_words.specs.Layout.{chain_at}
use Rattle.chain_words.proofs.Chains.{small_stages}
use Rattle.chain_words.proofs.chain_at.Goals as goal

pub returns : goal.returns
unfolding chain_at
returns c =
    let e = c.stages_of.ensures in
    (rw (e, c.count_of.ensures, c.format_of.ensures, c.counter_at.ensures, c.counter_at-2.ensures), subst (λ (l : List Stage). All Small l) (sym e) (small_stages c.args.w.now c.fits-w 0 8))
