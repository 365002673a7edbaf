use Rattle.std.proofs.Common.{rules}
use lib.Ieee.{of_bits}
use Rattle.gain.specs.Gain.{linear_factor}
use Rattle.gain.proofs.Gain.linear.Goals as goal

-- 32768.0 is 2 ^ 15
pub returns : goal.returns
unfolding linear_factor of_bits
returns c = search rules
