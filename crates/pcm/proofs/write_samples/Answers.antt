use Rattle.std.proofs.Common.{◌≡◌, ◌+◌, ◌*◌, ◌<◌, length, arith}
use Rattle.std.specs.Int.{w16}
use Rattle.pcm.specs.laws.Integers.{answered}
use Rattle.pcm.specs.laws.Samples.{length_encode}
use Rattle.pcm.specs.laws.Writing.{writing_start, writing_as, writing_put, next_sample}
use Rattle.pcm.proofs.write_samples.Goals as goal

pub loop-k-init : goal.loop-k-init
loop-k-init g c = λ zs e t. writing_start _ _ _ (omega (arith, length_encode zs))

pub loop-k-preserved : goal.loop-k-preserved
loop-k-preserved g c = λ zs e t.
    let k = c.loop-k.k in
    let h : k < length zs = omega arith in
    let j : 2 * k + 2 ≡ 2 * (k + 1) = omega arith in
    let rest = writing_as (c.loop-k.invariant zs e t) (next_sample zs k h) in
    rw j at (writing_put rest c.put_i16.ensures (answered w16 c.sample.type_inv (t k _ c.loop-k-test.true c.sample.ensures)) (omega arith) (omega arith))
