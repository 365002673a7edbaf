-- k frames are written, and a frame is due while the position lies in the block. Assumes nothing.
use Rattle.std.proofs.Common.{◌∷◌, ◌-◌, length}
use Rattle.pcm.specs.Frames.{frames_of}
use Rattle.resample.specs.Resample.{outputs_from}
use Rattle.resample.proofs.Outputs.{Progress}
use Rattle.resample.proofs.run.Given as goal

abbrev pub invariant-loop-at : goal.invariant-loop-at
invariant-loop-at g l = Progress g.row.C l.r.in_r l.r.out_r l.num (l.last ∷ frames_of g.row.C l.input) l.initial.out l.out l.k l.at

abbrev pub decreases-loop-at : goal.decreases-loop-at
decreases-loop-at g l = length (outputs_from l.r.in_r l.r.out_r l.num (l.last ∷ frames_of g.row.C l.input)) - l.k
