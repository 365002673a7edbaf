use lib.Ieee.{of_bits, of_int, round, div}
use Rattle.cookbook.specs.Cookbook.{peak_factor_allowed}
use Rattle.cookbook.proofs.BiquadKind.gain_allowed.Goals as goal

pub returns-in-Peak : goal.returns-in-Peak
unfolding peak_factor_allowed of_bits of_int round div
returns-in-Peak c = rw c.in-Peak.is c.between.ensures
