-- `block::walked_of_words` meets its contract. Assumes nothing.
use Rattle.std.proofs.Common.{◌≡◌, ◌<◌, sym, ap, ◌∙◌, rules, arith, Err}
use Rattle.stage.specs.declared.Stage.{Stage}
use Rattle.questions.specs.Walk.{stepped}
use Rattle.stage.specs.Places.{no_stage}
use Rattle.chains.specs.laws.Words.{stage_of_eight}
use Rattle.block.specs.laws.Asking.{asks_next, asks_stop, asks_end, ends_refused}
use Rattle.block.proofs.walked_of_words.Goals as goal

pub loop-i-preserved : goal.loop-i-preserved
loop-i-preserved c =
    let v = c.loop-i.invariant in
    let i = c.loop-i.i in
    let e : i < 8 = omega (arith, v.few, c.loop-i-test.true) in
    asks_next _ _ _ _ _ _ _ _ v c.loop-i-test.true _
    (ap (stepped c.args.asking.question c.args.asking.shorter c.loop-i.walk) (stage_of_eight c.args.words.now i no_stage e ∙ sym c.stage_at.ensures) ∙ sym c.step.ensures ∙ c.in_ok-walk.was)

pub returns-in_err-walk : goal.returns-in_err-walk
returns-in_err-walk c =
    let v = c.loop-i.invariant in
    let i = c.loop-i.i in
    let h : i < 8 = omega (arith, v.few, c.loop-i-test.true) in
    let e : c.from_residual.result ≡ Err c.in_err-walk.field-0.0 = search rules in
    ends_refused _ _ _ e
    (asks_stop _ _ _ _ _ _ _ _ v c.loop-i-test.true _
    (ap (stepped c.args.asking.question c.args.asking.shorter c.loop-i.walk) (stage_of_eight c.args.words.now i no_stage h ∙ sym c.stage_at.ensures) ∙ sym c.step.ensures ∙ c.in_err-walk.was))

pub returns : goal.returns
returns c =
    let v = c.loop-i.invariant in
    record {
      is = sym (asks_end _ _ _ _ _ _ _ _ v c.loop-i-test.false);
      fits = (v.within.largest, v.within.short);
    }
