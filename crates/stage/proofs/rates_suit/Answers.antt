use native.Mathlib.Omega.{arith}
use Rattle.pcm.specs.Formats.{rate_allowed}
use Rattle.rates.specs.Rates.{rates_allowed}
use Rattle.stage.specs.Rooms.{rates_suit}
use Rattle.stage.proofs.rates_suit.Goals as goal

pub parts_suit-requires : goal.parts_suit-requires
unfolding rate_allowed
parts_suit-requires c = grind arith

pub returns-then-rate_allowed-2 : goal.returns-then-rate_allowed-2
unfolding rates_suit rates_allowed
returns-then-rate_allowed-2 c = grind arith

pub returns-else-rate_allowed-2 : goal.returns-else-rate_allowed-2
unfolding rates_suit rates_allowed
returns-else-rate_allowed-2 c = grind arith
