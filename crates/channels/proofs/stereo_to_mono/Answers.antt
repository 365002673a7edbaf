use Rattle.std.proofs.Common.{rules, arith}
use Rattle.pcm.specs.Frames.{bytes_of}
use Rattle.channels.specs.Channels.{mono_bytes}
use Rattle.channels.proofs.Samples.{means, length_means, mean_of_frame}
use Rattle.channels.proofs.stereo_to_mono.Goals as goal

pub returns : goal.returns
unfolding mono_bytes bytes_of
returns c =
    let input = c.args.input.now in
    c.write_samples.ensures (means input) (length_means input c.requires.0) (λ k z h p. rw (mean_of_frame input k (omega arith)) (search rules))
