-- `block::scratch_of` meets its contract. Assumes nothing.
use Rattle.std.proofs.Common.{rules, ◌≡◌, sym, ap, ◌∙◌, ◌*◌, Err}
use Rattle.pcm.specs.Refusals.{Verdict}
use Rattle.chains.specs.laws.Heads.{headed}
use Rattle.block.specs.BlockCall.{scratch_answer}
use Rattle.block.specs.laws.Heads.{own_channels, asks_from, figure_at, unsuited_at, scratch_headless}
use Rattle.block.proofs.scratch_of.Goals as goal

pub returns-in_err-own : goal.returns-in_err-own
returns-in_err-own g c =
    let e : c.from_residual.result ≡ Err c.in_err-own.field-0.0 = search rules in
    e ∙ scratch_headless _ _ (sym c.in_err-own.was ∙ c.head.ensures.is) _

pub begun-start-requires : goal.begun-start-requires
begun-start-requires g c = own_channels _ _ (headed (g.C.Chain.chain c.args.chain.now) _ (sym c.in_ok-own.was ∙ c.head.ensures.is) c.head.ensures.eight)

pub walked-requires-clause-start : goal.walked-requires-clause-start
walked-requires-clause-start g c = asks_from _ _ (headed (g.C.Chain.chain c.args.chain.now) _ (sym c.in_ok-own.was ∙ c.head.ensures.is) c.head.ensures.eight) _ _ _ _ _ c.begun-start.ensures

pub returns-in_err-walk : goal.returns-in_err-walk
returns-in_err-walk g c =
    let e : c.from_residual-in_err-walk.result ≡ Err c.in_err-walk.field-0.0 = search rules in
    e ∙ unsuited_at _ _ (headed (g.C.Chain.chain c.args.chain.now) _ (sym c.in_ok-own.was ∙ c.head.ensures.is) c.head.ensures.eight) _ _ _ c.begun-start.ensures c.walked.ensures.is _ c.in_err-walk.was

pub size_question-requires : goal.size_question-requires
size_question-requires g c = (own_channels _ _ (headed (g.C.Chain.chain c.args.chain.now) _ (sym c.in_ok-own.was ∙ c.head.ensures.is) c.head.ensures.eight)).0

-- by what the size comes to
pub returns-in_err-size_question : goal.returns-in_err-size_question
returns-in_err-size_question g c =
    let e : c.from_residual-in_err-size_question.result ≡ Err c.in_err-size_question.field-0.0 = search rules in
    e ∙ ap (λ (v : Verdict). scratch_answer v (2 * c.in_ok-walk.walk.largest)) (sym c.in_err-size_question.was)
    ∙ figure_at _ _ (headed (g.C.Chain.chain c.args.chain.now) _ (sym c.in_ok-own.was ∙ c.head.ensures.is) c.head.ensures.eight) _ _ _ c.begun-start.ensures c.walked.ensures.is _ _ c.in_ok-walk.was c.size_question.ensures

pub returns : goal.returns
returns g c =
    ap (λ (v : Verdict). scratch_answer v (2 * c.in_ok-walk.walk.largest)) (sym c.in_ok-size_question.was)
    ∙ figure_at _ _ (headed (g.C.Chain.chain c.args.chain.now) _ (sym c.in_ok-own.was ∙ c.head.ensures.is) c.head.ensures.eight) _ _ _ c.begun-start.ensures c.walked.ensures.is _ _ c.in_ok-walk.was c.size_question.ensures
