use Rattle.std.proofs.Common.{◌≡◌, ◌*◌, List, ℤ, length, drop}
use Rattle.pcm.specs.Samples.{encode, Gives}
use Rattle.pcm.specs.Frames.{written}
use Rattle.pcm.specs.laws.Writing.{Writing}
use Rattle.pcm.proofs.write_samples.Given as goal

-- the samples before k are written
abbrev pub invariant-loop-k : goal.invariant-loop-k
invariant-loop-k g l =
    (zs : List ℤ) → length zs ≡ l.n → Gives (goal.F-post g l.sample) l.n zs → Writing (written (encode zs) l.initial.out) (encode (drop l.k zs)) (2 * l.n) l.initial.out l.out (2 * l.k)
