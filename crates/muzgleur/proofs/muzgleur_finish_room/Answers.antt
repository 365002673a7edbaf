use Rattle.std.proofs.Common.{sym, ap, ◌∙◌}
use Rattle.room.specs.Room.{finish_room, room_told}
use Rattle.muzgleur.proofs.Answered.{few_finish_room}
use Rattle.muzgleur.proofs.Cut.{chain_is}
use Rattle.muzgleur.proofs.muzgleur_finish_room.Goals as goal

pub returns-in_default : goal.returns-in_default
returns-in_default c = c.from.ensures ∙ ap room_told (few_finish_room _ c.in_default.ensures.cases)

pub returns : goal.returns
returns c = c.from-2.ensures ∙ ap room_told (c.finish_room_of.ensures ∙ ap finish_room (sym (chain_is _ _ c.in-Some.ensures.cases)))
