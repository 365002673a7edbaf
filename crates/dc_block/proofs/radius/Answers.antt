-- A rate is below 2 ^ 24, up to which each whole number is an `f32`. Assumes nothing.
use Rattle.std.proofs.Common.{refl, arith}
use Rattle.std.proofs.Math.Dec.{le→leb}
use Rattle.std.proofs.lemmas.Bool.Decides.{nat_tests}
use Rattle.std.specs.Float.Ieee.{in_float, of_bits, of_int, round}
use Rattle.pcm.specs.Formats.{rate_allowed}
use Rattle.dc_block.specs.DcBlock.{pole_of}
use Rattle.dc_block.proofs.radius.Goals as goal

pub int_to_float-result : goal.int_to_float-result
unfolding in_float rate_allowed
int_to_float-result c = le→leb c.args.rate 16777216 (grind (arith, nat_tests, c.requires))

pub returns : goal.returns
unfolding pole_of of_bits of_int round
returns c = refl
