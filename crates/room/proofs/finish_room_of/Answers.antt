-- `room::finish_room_of` meets its contract. Assumes nothing.
use Rattle.std.proofs.Common.{rules, ◌≡◌, sym, ap, ◌∙◌, Ok, Err}
use Rattle.room.specs.laws.Asked.{finish_room_is, finish_room_unsuited}
use Rattle.room.proofs.Heads.{finish_headless}
use Rattle.room.proofs.finish_room_of.Goals as goal

pub returns-in_err-own : goal.returns-in_err-own
returns-in_err-own g c =
    let e : c.from_residual.result ≡ Err c.in_err-own.field-0.0 = search rules in
    e ∙ finish_headless _ _ (sym c.in_err-own.was ∙ c.head.ensures.is)

pub returns-in_err-walk : goal.returns-in_err-walk
returns-in_err-walk g c =
    let e : c.from_residual-in_err-walk.result ≡ Err c.in_err-walk.field-0.0 = search rules in
    e ∙ finish_room_unsuited _ _ c.walked.ensures _ c.in_err-walk.was

pub returns : goal.returns
returns g c = ap Ok c.into.ensures ∙ finish_room_is _ _ c.walked.ensures _ c.in_ok-walk.was
