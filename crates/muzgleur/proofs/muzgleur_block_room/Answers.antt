use Rattle.std.proofs.Common.{sym, ap, ◌∙◌}
use Rattle.pipeline.specs.declared.Pipeline.{Pipeline}
use Rattle.room.specs.Room.{block_room, room_told}
use Rattle.muzgleur.proofs.Answered.{few_block_room}
use Rattle.muzgleur.proofs.Cut.{chain_is}
use Rattle.muzgleur.proofs.muzgleur_block_room.Goals as goal

pub returns-in_default : goal.returns-in_default
returns-in_default c = c.from.ensures ∙ ap room_told (few_block_room _ c.in_default.ensures.cases _)

pub returns : goal.returns
returns c = c.from-2.ensures ∙ ap room_told (c.block_room_of.ensures ∙ ap (λ (d : Pipeline). block_room d c.args.frames) (sym (chain_is _ _ c.in-Some.ensures.cases)))
