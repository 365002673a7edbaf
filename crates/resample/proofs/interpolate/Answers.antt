-- Each step fits 64 bits, and the sum is a sample. Assumes nothing.
use Rattle.std.proofs.Common.{arith, to_z-of_z}
use Rattle.resample.specs.Value.{interpolated}
use Rattle.resample.proofs.Interpolating.{steps}
use Rattle.resample.proofs.interpolate.Goals as goal

pub overflow_mul-result : goal.overflow_mul-result
overflow_mul-result c = let s = steps c.args.a c.args.b c.args.f c.requires c.ranges.a c.ranges.b in grind (arith, to_z-of_z)

pub overflow_add-result : goal.overflow_add-result
overflow_add-result c = let s = steps c.args.a c.args.b c.args.f c.requires c.ranges.a c.ranges.b in grind (arith, to_z-of_z)

pub overflow_add-result-2 : goal.overflow_add-result-2
overflow_add-result-2 c = let s = steps c.args.a c.args.b c.args.f c.requires c.ranges.a c.ranges.b in grind (arith, to_z-of_z)

pub overflow_cast-result-2 : goal.overflow_cast-result-2
overflow_cast-result-2 c = let s = steps c.args.a c.args.b c.args.f c.requires c.ranges.a c.ranges.b in grind (arith, to_z-of_z)

pub returns : goal.returns
unfolding interpolated
returns c = let s = steps c.args.a c.args.b c.args.f c.requires c.ranges.a c.ranges.b in grind (arith, to_z-of_z)
