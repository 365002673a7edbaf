-- `finish::call` meets its contract: THE FINISH CALL. Assumes nothing.
use Rattle.std.proofs.Common.{rules, ◌≡◌, refl, sym, ap, ◌∙◌, Err, Result}
use Rattle.pcm.specs.declared.Error.{Error}
use Rattle.answers.specs.declared.Answer.{Answer}
use Rattle.finish.specs.FinishCall.{FinishResult}
use Rattle.finish.specs.laws.Heads.{end_headless}
use Rattle.finish.proofs.Calling.{refused_call, accepted_call, finishes}
use Rattle.finish.proofs.call.Goals as goal

pub returns-in_err-own-clause-all : goal.returns-in_err-own-clause-all
returns-in_err-own-clause-all g c =
    let d = g.C.Chain.chain c.args.chain.now in
    let e : c.from_residual.result ≡ Err c.in_err-own.field-0.0 = search rules in
    ap (λ (x : Result (Answer (Unit {0})) Error). let r : FinishResult = record { chain = d; answer = x; a = c.args.a.now; b = c.args.b.now } in r) e
    ∙ refused_call d c.args.a.now c.args.b.now _ _ refl refl _ (sym (end_headless d _ (sym c.in_err-own.was ∙ c.head.ensures.is) _))

pub returns-in_err-finish_question-clause-all : goal.returns-in_err-finish_question-clause-all
returns-in_err-finish_question-clause-all g c =
    let d = g.C.Chain.chain c.args.chain.now in
    let e : c.from_residual-in_err-finish_question.result ≡ Err c.in_err-finish_question.field-0.0 = search rules in
    ap (λ (x : Result (Answer (Unit {0})) Error). let r : FinishResult = record { chain = d; answer = x; a = c.args.a.now; b = c.args.b.now } in r) e
    ∙ refused_call d c.args.a.now c.args.b.now _ _ c.min.ensures c.finish_question.ensures _ c.in_err-finish_question.was

pub play-requires-clause-finishes : goal.play-requires-clause-finishes
play-requires-clause-finishes g c = finishes _ c.args.a.now c.args.b.now _ _ c.min.ensures c.finish_question.ensures c.in_ok-finish_question.was

pub returns-clause-all : goal.returns-clause-all
returns-clause-all g c = c.play.ensures.all ∙ accepted_call _ c.args.a.now c.args.b.now _ _ c.min.ensures c.finish_question.ensures c.in_ok-finish_question.was
