-- `finish::finish_question` meets its contract. Assumes nothing.
use Rattle.std.proofs.Common.{rules, ◌≡◌, sym, ap, ◌∙◌, Err}
use Rattle.block.specs.laws.Asking.{ends_found}
use Rattle.block.specs.laws.Heads.{own_channels, asks_from}
use Rattle.finish.specs.Turns.{end_from}
use Rattle.finish.specs.laws.Heads.{end_at}
use Rattle.finish.proofs.finish_question.Goals as goal

pub begun-start-requires : goal.begun-start-requires
begun-start-requires g c = own_channels _ _ c.requires

pub walked-requires-clause-start : goal.walked-requires-clause-start
walked-requires-clause-start g c = asks_from _ _ c.requires _ _ _ _ _ c.begun-start.ensures

pub returns-in_err-walk : goal.returns-in_err-walk
unfolding end_from
returns-in_err-walk g c =
    let e : c.from_residual.result ≡ Err c.in_err-walk.field-0.0 = search rules in
    e ∙ ap end_from (sym c.in_err-walk.was) ∙ end_at _ _ c.requires _ _ _ c.begun-start.ensures c.walked.ensures.is

pub room_question-requires : goal.room_question-requires
room_question-requires g c = (ends_found _ _ _ c.walked.ensures c.in_ok-walk.was).1

pub returns : goal.returns
unfolding end_from
returns g c = c.room_question.ensures ∙ ap end_from (sym c.in_ok-walk.was) ∙ end_at _ _ c.requires _ _ _ c.begun-start.ensures c.walked.ensures.is
