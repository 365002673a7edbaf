-- The greatest common divisor of a and b is that of x and y, and b is above 1, so that no turn divides by 1. Each turn takes one remainder.
use Rattle.std.proofs.Common.{◌≡◌, ◌<◌}
use Rattle.rates.specs.Divisor.{gcd, remainders_to}
use Rattle.rates.proofs.gcd.Given as goal

abbrev pub invariant-loop-t : goal.invariant-loop-t
invariant-loop-t l = record { divided : 0 < l.a; above : 1 < l.b; same : gcd l.a l.b ≡ gcd l.x l.y }

abbrev pub decreases-loop-t : goal.decreases-loop-t
decreases-loop-t l = remainders_to 1 l.a l.b
