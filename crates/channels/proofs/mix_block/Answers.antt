use Rattle.std.proofs.Common.{rules, arith, ◌∙◌, pos}
use Rattle.pcm.specs.Samples.{decode}
use Rattle.pcm.specs.laws.Samples.{length_decode, get_or_decode}
use Rattle.channels.specs.Channels.{mixed_samples, mixed_bytes}
use Rattle.channels.specs.laws.Clipping.{same_decoded}
use Rattle.channels.proofs.Samples.{length_mixed_samples, mixed_at}
use Rattle.channels.proofs.mix_block.Goals as goal

pub returns : goal.returns
unfolding mixed_bytes
returns c =
    let a = c.args.a.now in
    let b = c.args.b.now in
    c.write_samples.ensures (mixed_samples (decode a) (decode b)) (length_mixed_samples (decode a) (decode b) (same_decoded a b c.requires.0) ∙ length_decode a)
    (λ k z h p.
    rw (mixed_at (decode a) (decode b) k (omega (arith, length_decode a)) (omega (arith, length_decode b)), get_or_decode a k (pos 0) (omega arith), get_or_decode b k (pos 0) (omega arith)) (search rules))
