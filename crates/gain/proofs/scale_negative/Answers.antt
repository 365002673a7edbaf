use Rattle.std.proofs.Common.{◌≡◌, refl, arith, ap₂, ◌∙◌, ◌/◌, pos, neg_ℤ, ◌-ℤ◌, to_z, of_z}
use Rattle.std.specs.Int.{w32}
use Rattle.pcm.specs.laws.Integers.{answered, read_back}
use Rattle.gain.proofs.Products.{product_within, product_read, difference_fits, scaled_read, negative_in_parts}
use Rattle.gain.proofs.scale_negative.Goals as goal

pub returns : goal.returns
returns c =
    let x = c.args.x in
    let p = c.args.p in
    let low : to_z w32 (of_z w32 c.low_part.result) ≡ c.low_part.result = answered w32 c.low_part.type_inv refl in
    let high = product_read x (p / 32768) c.ranges.x c.times.type_inv c.times.ensures in
    scaled_read x (neg_ℤ (pos p)) c.held16.type_inv c.held16.ensures
    (difference_fits (to_z w32 (of_z w32 c.low_part.result)) (to_z w32 (of_z w32 c.times.result)) (rw low c.low_part.ensures.1) (rw high (omega (arith, product_within x (p / 32768) c.ranges.x))))
    (ap₂ ◌-ℤ◌ (low ∙ rw (read_back c.ranges.x) at c.low_part.ensures.0) high ∙ negative_in_parts x p c.requires)
