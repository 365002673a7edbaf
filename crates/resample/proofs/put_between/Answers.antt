-- Each turn writes one sample more. Assumes nothing.
use Rattle.std.proofs.Common.{◌≡◌, ap₂, ◌∙◌, le_antisymm, List, ℕ, ℤ, ◌+◌, ◌*◌, arith}
use Rattle.std.specs.Int.{w16}
use Rattle.pcm.specs.Samples.{stored}
use Rattle.pcm.specs.laws.Integers.{answered}
use Rattle.resample.proofs.Writing.{frame_begun, frame_next}
use Rattle.resample.proofs.put_between.Goals as goal

pub loop-c-init : goal.loop-c-init
loop-c-init g c = frame_begun c.args.out.now g.row.C c.args.k

pub loop-c-preserved : goal.loop-c-preserved
loop-c-preserved g c =
    let a = c.args in
    let i = c.loop-c.c in
    c.put_i16.ensures
    ∙ ap₂ (λ (l : List ℕ) (z : ℤ). stored l ((a.k * g.row.C + i) * 2) z) c.loop-c.invariant (answered w16 c.between.type_inv c.between.ensures)
    ∙ frame_next a.out.now g.row.C a.k i _ (omega (arith, c.requires.3))

pub returns : goal.returns
returns g c =
    let k = c.args.k in
    let e : c.loop-c.c ≡ g.row.C = le_antisymm c.loop-c.auto.c-end c.loop-c-test.false in
    let n : (k + 1) * (g.row.C * 2) ≡ (k * g.row.C + g.row.C) * 2 = omega arith in
    rw n (rw e at c.loop-c.invariant)
