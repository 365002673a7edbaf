-- A frame count times a rate does not wrap. Assumes nothing.
use Rattle.std.specs.Prelude.{ℕ, ◌+◌, ◌*◌, ◌^◌, ◌≤◌, ◌<◌}
use Rattle.std.proofs.Common.{mul-le-mul, arith}

pub product_fits : {n o i : ℕ} → n ≤ 2400000000000 → o ≤ 384000 → i ≤ 384000 → n * o + i < 2 ^ 64
product_fits {n} {o} {i} h k l = omega (arith, mul-le-mul h k)
