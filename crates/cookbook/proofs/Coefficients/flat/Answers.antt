use Rattle.std.proofs.Common.{refl}
use lib.Ieee.{of_bits, of_int, round}
use Rattle.cookbook.proofs.Coefficients.flat.Goals as goal

pub returns : goal.returns
unfolding of_bits of_int round
returns c = refl
