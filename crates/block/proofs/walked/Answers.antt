-- `block::walked` meets its contract. Assumes nothing.
use Rattle.std.proofs.Common.{◌≡◌, sym, ap, ◌∙◌, rules, ℕ, take, Err}
use Rattle.questions.specs.Walk.{stepped, walked}
use Rattle.chains.specs.declared.Head.{Head}
use Rattle.block.specs.laws.Asking.{asks_next, asks_stop, asks_end, ends_refused}
use Rattle.block.proofs.walked.Goals as goal

count_of : {a b : Head} → a ≡ b → a.count ≡ b.count
count_of e = ap (λ (h : Head). h.count) e

pub loop-i-preserved : goal.loop-i-preserved
loop-i-preserved g c =
    asks_next _ _ _ _ _ _ _ _ c.loop-i.invariant c.loop-i-test.true _
    (ap (stepped c.args.asking.question c.args.asking.shorter c.loop-i.walk) (sym c.stage.ensures) ∙ sym c.step.ensures ∙ c.in_ok-walk.was)

pub returns-in_err-walk : goal.returns-in_err-walk
returns-in_err-walk g c =
    let st = (g.C.Chain.chain c.args.chain.now).stages in
    let e : c.from_residual.result ≡ Err c.in_err-walk.field-0.0 = search rules in
    ends_refused _ _ _ e
    (ap (λ (n : ℕ). walked c.args.asking.question c.args.asking.shorter c.args.start (take n st)) (sym (count_of c.requires.head))
    ∙ asks_stop _ _ _ _ _ _ _ _ c.loop-i.invariant c.loop-i-test.true _
    (ap (stepped c.args.asking.question c.args.asking.shorter c.loop-i.walk) (sym c.stage.ensures) ∙ sym c.step.ensures ∙ c.in_err-walk.was))

pub returns : goal.returns
returns g c =
    let v = c.loop-i.invariant in
    let st = (g.C.Chain.chain c.args.chain.now).stages in
    record {
      is = sym (asks_end _ _ _ _ _ _ _ _ v c.loop-i-test.false) ∙ ap (λ (n : ℕ). walked c.args.asking.question c.args.asking.shorter c.args.start (take n st)) (count_of c.requires.head);
      fits = (v.within.largest, v.within.short);
    }
