use Rattle.std.proofs.Common.{◌≡◌, refl, arith, ap₂, ◌∙◌, ◌/◌, pos, ◌-ℤ◌, to_z, of_z}
use Rattle.std.specs.Int.{w32}
use Rattle.pcm.specs.laws.Integers.{answered, read_back}
use Rattle.gain.proofs.Products.{product_within, product_read, difference_fits, scaled_read, positive_in_parts}
use Rattle.gain.proofs.scale_positive.Goals as goal

pub returns : goal.returns
returns c =
    let x = c.args.x in
    let p = c.args.p in
    let high = product_read x (p / 32768) c.ranges.x c.times.type_inv c.times.ensures in
    let low : to_z w32 (of_z w32 c.low_part.result) ≡ c.low_part.result = answered w32 c.low_part.type_inv refl in
    scaled_read x (pos p) c.held16.type_inv c.held16.ensures
    (difference_fits (to_z w32 (of_z w32 c.times.result)) (to_z w32 (of_z w32 c.low_part.result)) (rw high (omega (arith, product_within x (p / 32768) c.ranges.x))) (rw low c.low_part.ensures.1))
    (ap₂ ◌-ℤ◌ high (low ∙ rw (read_back c.ranges.x) at c.low_part.ensures.0) ∙ positive_in_parts x p c.requires)
