-- The first c samples are taken, and no others. Assumes nothing.
use Rattle.std.proofs.Common.{◌≡◌, ◌+◌, ◌*◌}
use Rattle.pcm.specs.Samples.{sample_at}
use Rattle.rates.specs.Counting.{tabulate}
use Rattle.resample.specs.Resample.{padded}
use Rattle.resample.proofs.newest.Given as goal

abbrev pub invariant-loop-c : goal.invariant-loop-c
invariant-loop-c g l = l.last ≡ padded (tabulate l.c (λ c. sample_at l.input ((l.first + c) * 2)))
