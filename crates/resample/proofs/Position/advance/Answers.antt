-- Whichever way the out_r-ths go, they are brought below out_r. Assumes nothing.
use Rattle.std.proofs.Common.{◌+◌, ◌-◌, arith}
use Rattle.resample.proofs.Place.{sum_is}
use Rattle.resample.proofs.Position.advance.Goals as goal
use Rattle.resample.proofs.Position.advance.Goals.{then-over-out_r, else-over-out_r}

pub returns : goal.returns
returns c =
    let p = c.args.self in
    let s = c.args.step in
    elim c.if-over-out_r.branch [
      | then-over-out_r w ↦ rw (w.frac-is, w.over-is) (sum_is c.args.out_r p s (p.frac + s.frac + 1) (p.over + s.over - c.args.out_r) (omega arith) (omega arith) c.requires.0.limit)
      | else-over-out_r w ↦ rw (w.frac-is, w.over-is) (sum_is c.args.out_r p s (p.frac + s.frac) (p.over + s.over) (omega arith) (omega arith) c.requires.0.limit)
    ]
