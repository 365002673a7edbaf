use Rattle.block.specs.laws.Heads.{own_channels, asks_from}
use Rattle.room.proofs.walked.Goals as goal

pub begun-start-requires : goal.begun-start-requires
begun-start-requires g c = own_channels _ _ c.requires

pub walked-requires-clause-start : goal.walked-requires-clause-start
walked-requires-clause-start g c = asks_from _ _ c.requires _ _ _ _ _ c.begun-start.ensures
