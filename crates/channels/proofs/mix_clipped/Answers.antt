use Rattle.std.proofs.Common.{rules, arith, ◌∙◌, pos}
use Rattle.pcm.specs.Samples.{outside16, decode}
use Rattle.pcm.specs.laws.Samples.{length_decode, get_or_decode}
use Rattle.channels.specs.Channels.{sums, mix_clipped}
use Rattle.channels.specs.laws.Clipping.{same_decoded}
use Rattle.channels.proofs.Samples.{sums_as_long, sum_at}
use Rattle.channels.proofs.mix_clipped.Goals as goal

pub returns : goal.returns
unfolding mix_clipped
returns c =
    let a = c.args.a.now in
    let b = c.args.b.now in
    c.count_where.ensures outside16 (sums (decode a) (decode b)) (sums_as_long (decode a) (decode b) (same_decoded a b c.requires) ∙ length_decode a)
    (λ k z h p.
    rw (sum_at (decode a) (decode b) k (omega (arith, length_decode a)) (omega (arith, length_decode b)), get_or_decode a k (pos 0) (omega arith), get_or_decode b k (pos 0) (omega arith)) (search rules))
