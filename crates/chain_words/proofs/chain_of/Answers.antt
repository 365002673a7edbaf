use Rattle.std.proofs.Common.{sym, ◌∙◌, subst}
use Rattle.pcm.specs.Samples.{All}
use Rattle.pipeline.specs.declared.Pipeline.{Pipeline}
use Rattle.stage_words.specs.Storable.{Small}
use Rattle.chain_words.specs.laws.Chains.{too_few, stands_chain, no_words}
use Rattle.chain_words.specs.laws.Front.{cut_chain}
use Rattle.chain_words.proofs.Chains.{no_chain_small}
use Rattle.chain_words.proofs.chain_of.Goals.{in_default-via-in-Some+else-stand, in_default-via-in_default}
use Rattle.chain_words.proofs.chain_of.Goals as goal

pub returns-in-Some : goal.returns-in-Some
returns-in-Some c =
    let x = c.in-Some.words.now in
    let e = c.in-Some.ensures.cases in
    (c.chain_at.ensures.0 ∙ sym (cut_chain c.args.w.now x e.enough e.same ∙ stands_chain x (sym c.stand.ensures ∙ c.if-stand.true)), c.chain_at.ensures.1)

pub returns-in_default : goal.returns-in_default
returns-in_default c = (
  c.no_chain.ensures ∙ sym (elim c.in_default.branch [
    | in_default-via-in-Some+else-stand w ↦ let e = w.in-Some.ensures.cases in cut_chain c.args.w.now w.in-Some.words.now e.enough e.same ∙ no_words w.in-Some.words.now (sym w.stand.ensures ∙ w.if-stand.false)
    | in_default-via-in_default w ↦ too_few c.args.w.now w.in_default.ensures.cases
  ]),
  subst (λ (d : Pipeline). All Small d.stages) (sym c.no_chain.ensures) no_chain_small,
)
