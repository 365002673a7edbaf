use Rattle.std.proofs.Common.{sym, ◌∙◌}
use Rattle.chain_words.specs.laws.Chains.{too_few_stand}
use Rattle.chain_words.specs.laws.Front.{cut_long, cut_stands, stands_counted}
use Rattle.chain_words.proofs.stand.Goals as goal

pub returns-in-None : goal.returns-in-None
returns-in-None c = sym (too_few_stand c.args.w.now c.in-None.ensures.cases)

pub returns-in-Some : goal.returns-in-Some
returns-in-Some c =
    let x = c.in-Some.words.now in
    let e = c.in-Some.ensures.cases in
    c.kinds_known.ensures ∙ sym (cut_stands c.args.w.now x e.enough e.same ∙ stands_counted x (cut_long c.args.w.now x e.enough e.same))
