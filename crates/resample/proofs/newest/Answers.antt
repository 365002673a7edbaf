-- The samples taken are those of the newest frame. Assumes nothing.
use Rattle.std.proofs.Common.{◌≡◌, sym, ap, ◌∙◌, le_antisymm}
use Rattle.resample.proofs.Blocks.{newest_read}
use Rattle.resample.specs.Resample.{padded}
use Rattle.resample.proofs.newest.Goals as goal

pub returns : goal.returns
returns g c =
    let e : c.loop-c.c ≡ g.row.C = le_antisymm c.loop-c.auto.c-end c.loop-c-test.false in
    rw e at c.loop-c.invariant ∙ sym (ap padded (newest_read g.row.C c.args.input.now c.requires.0 c.requires.1))
