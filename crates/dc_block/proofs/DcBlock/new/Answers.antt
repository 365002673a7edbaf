-- The literal 20.0 is the whole number 20. Assumes nothing.
use Rattle.std.specs.Float.Ieee.{of_bits, of_int, round}
use Rattle.dc_block.proofs.DcBlock.new.Goals as goal

pub returns : goal.returns
unfolding of_bits of_int round
returns c = c.with_corner.ensures
