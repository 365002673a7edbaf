use Rattle.std.proofs.Common.{◌≡◌, sym, ap, ◌∙◌, ◌+◌, ◌*◌, drop, arith}
use Rattle.std.specs.Int.{w16}
use Rattle.pcm.specs.laws.Integers.{answered}
use Rattle.pcm.specs.Samples.{sample_at}
use Rattle.pcm.specs.laws.Writing.{writing_start, writing_as, writing_put, writing_end, next_pair}
use Rattle.channels.specs.Channels.{stereo_bytes}
use Rattle.channels.specs.laws.Channels.{stereo_next, stereo_nil, length_stereo}
use Rattle.channels.proofs.mono_to_stereo.Goals as goal

pub loop-k-init : goal.loop-k-init
loop-k-init c = writing_start _ _ _ (sym (length_stereo _ c.requires.0))

pub loop-k-preserved : goal.loop-k-preserved
unfolding sample_at
loop-k-preserved c =
    let input = c.args.input.now in
    let k = c.loop-k.k in
    let x = answered w16 c.get_i16-x.type_inv c.get_i16-x.ensures in
    let i : 2 * k + 2 ≡ 2 * (k + 1) = omega arith in
    let j : 4 * k + 2 + 2 ≡ 4 * (k + 1) = omega arith in
    let rest = writing_as c.loop-k.invariant (ap stereo_bytes (next_pair input (2 * k) (omega arith)) ∙ stereo_next _ _ (drop (2 * k + 2) input)) in
    let left = writing_put rest c.put_i16.ensures x (omega arith) (omega arith) in
    rw (i, j) at (writing_put left c.put_i16-in-loop-k.ensures x (omega arith) (omega arith))

pub returns : goal.returns
returns c = writing_end stereo_bytes c.args.input.now (2 * c.loop-k.k) c.loop-k.invariant (omega arith) stereo_nil (omega arith)
