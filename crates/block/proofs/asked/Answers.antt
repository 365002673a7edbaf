-- `block::asked` meets its contract. Assumes nothing.
use Rattle.std.proofs.Common.{rules, ◌≡◌, sym, ap, ◌∙◌, Err}
use Rattle.questions.specs.Walk.{verdict_from}
use Rattle.block.specs.laws.Asking.{ends_found}
use Rattle.block.specs.laws.Heads.{own_channels, asks_from, verdict_at}
use Rattle.block.proofs.asked.Goals as goal

pub begun-start-requires : goal.begun-start-requires
begun-start-requires g c = own_channels _ _ c.requires

pub walked-requires-clause-start : goal.walked-requires-clause-start
walked-requires-clause-start g c = asks_from _ _ c.requires _ _ _ _ _ c.begun-start.ensures

pub returns-in_err-walk : goal.returns-in_err-walk
unfolding verdict_from
returns-in_err-walk g c =
    let e : c.from_residual.result ≡ Err c.in_err-walk.field-0.0 = search rules in
    e ∙ ap (verdict_from c.args.own.format c.args.format c.args.size) (sym c.in_err-walk.was)
    ∙ verdict_at _ _ c.requires _ _ _ _ _ c.begun-start.ensures c.walked.ensures.is

pub verdict-requires : goal.verdict-requires
verdict-requires g c = ((own_channels _ _ c.requires).0, (ends_found _ _ _ c.walked.ensures c.in_ok-walk.was).1)

pub returns : goal.returns
returns g c =
    c.verdict.ensures ∙ ap (verdict_from c.args.own.format c.args.format c.args.size) (sym c.in_ok-walk.was)
    ∙ verdict_at _ _ c.requires _ _ _ _ _ c.begun-start.ensures c.walked.ensures.is
