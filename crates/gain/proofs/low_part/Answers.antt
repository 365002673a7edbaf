use Rattle.std.proofs.Common.{ap, ap₂, lit<, ◌≤◌, ℤ, nat_abs, ◌-ℤ◌}
use Rattle.std.specs.Int.{w32}
use Rattle.pcm.specs.Integers.{floor_div}
use Rattle.pcm.specs.laws.Integers.{read_back, settled, sub_within, floor_within, fits_within}
use Rattle.gain.proofs.Products.{low, product_within, product_read}
use Rattle.gain.proofs.low_part.Goals as goal

pub returns : goal.returns
returns c =
    let rest : ℤ = c.args.half -ℤ low c.args.x c.args.p in
    let within : nat_abs rest ≤ 1073725440 = sub_within c.args.half (low c.args.x c.args.p) c.requires (product_within c.args.x c.args.p c.ranges.x) in
    let shifted : nat_abs (floor_div rest 32768) ≤ 1073725440 = floor_within rest 32768 within in
    let e = ap₂ ◌-ℤ◌ (read_back c.ranges.half) (product_read c.args.x c.args.p c.ranges.x c.times.type_inv c.times.ensures) in
    let r = settled w32 (ap (λ z. floor_div z 32768) (settled w32 e (fits_within w32 rest within (lit< tt)))) (fits_within w32 (floor_div rest 32768) shifted (lit< tt)) in
    (r, rw r shifted)
