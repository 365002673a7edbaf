-- Each turn writes one frame more. Assumes nothing.
use Rattle.std.proofs.Common.{◌+◌, ◌*◌, mul-le-mul_right, arith}
use Rattle.std.proofs.Math.Nat.{le-mul_of_pos_right}
use Rattle.resample.proofs.Place.{at_sum}
use Rattle.resample.proofs.Outputs.{progress_start, progress_next, more, looped}
use Rattle.resample.proofs.run.Goals as goal

pub loop-at-init : goal.loop-at-init
loop-at-init g c = progress_start g.row.C _ _ _ _ _ _ c.requires _ c.new-at.ensures

pub put_between-requires : goal.put_between-requires
put_between-requires g c =
    let m = more g.row.C _ _ _ _ _ _ c.requires c.loop-at.invariant c.loop-at-test.true in
    (record { channels = c.requires.channels; whole = c.requires.whole }, c.loop-at-test.true, c.loop-at.invariant.place.parts.small, omega (arith, mul-le-mul_right (g.row.C * 2) m))

pub overflow_add-k : goal.overflow_add-k
overflow_add-k g c =
    let m = more g.row.C _ _ _ _ _ _ c.requires c.loop-at.invariant c.loop-at-test.true in
    record { fits = omega (arith, mul-le-mul_right (g.row.C * 2) m, le-mul_of_pos_right (c.loop-at.k + 1) c.requires.channels.0) }

pub loop-at-smaller : goal.loop-at-smaller
loop-at-smaller g c =
    let m = more g.row.C _ _ _ _ _ _ c.requires c.loop-at.invariant c.loop-at-test.true in
    omega (arith, m)

pub loop-at-preserved : goal.loop-at-preserved
loop-at-preserved g c =
    progress_next g.row.C _ _ _ _ _ _ c.requires c.loop-at.invariant c.loop-at-test.true
    (at_sum _ _ _ _ _ _ c.loop-at.invariant.place c.new-step.ensures c.advance-at.ensures) c.put_between.ensures

pub returns : goal.returns
returns g c = looped g.row.C _ _ _ _ _ _ c.requires c.loop-at.invariant c.loop-at-test.false
