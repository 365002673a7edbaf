use Rattle.std.proofs.Common.{ap}
use lib.Ieee.{of_bits, of_int, round}
use Rattle.cookbook.specs.Cookbook.{alpha_of}
use Rattle.cookbook.proofs.alpha.Goals as goal

pub returns : goal.returns
unfolding alpha_of of_bits of_int round
returns c = ap (alpha_of c.args.sine) c.from.ensures
