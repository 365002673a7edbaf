use Rattle.std.proofs.Common.{arith, rules, pos}
use Rattle.pcm.specs.Samples.{decode, outside}
use Rattle.pcm.specs.laws.Samples.{length_decode, get_or_decode}
use Rattle.gain.proofs.count_outside.Goals as goal

pub returns : goal.returns
returns c =
    let s = c.args.s.now in
    c.count_where.ensures (outside c.args.lo c.args.hi) (decode s) (length_decode s) (λ k b h p. rw (get_or_decode s k (pos 0) (omega arith)) (search rules))
