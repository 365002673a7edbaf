use Rattle.std.proofs.Common.{arith, rules, map, pos}
use Rattle.std.proofs.lemmas.List.{length-map, get_or-map}
use Rattle.pcm.specs.Samples.{decode}
use Rattle.pcm.specs.laws.Samples.{length_decode, get_or_decode}
use Rattle.gain.specs.Gain.{scaled, scaled_bytes}
use Rattle.gain.proofs.gain_samples.Goals as goal

pub returns : goal.returns
unfolding scaled_bytes
returns c =
    let input = c.args.input.now in
    let q = c.args.q in
    c.write_samples.ensures (map (scaled q) (decode input)) (omega (arith, length-map (decode input) (scaled q), length_decode input))
    (λ k z h p. rw (get_or-map (scaled q) (decode input) k (pos 0) (pos 0) (omega (arith, length_decode input)), get_or_decode input k (pos 0) (omega arith)) (search rules))
