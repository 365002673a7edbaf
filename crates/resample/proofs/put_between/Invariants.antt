-- The first c samples of the frame are written. Assumes nothing.
use Rattle.std.proofs.Common.{◌≡◌, [], ◌∷◌, ◌+◌, ◌*◌}
use Rattle.std.specs.List.{splice}
use Rattle.pcm.specs.Frames.{frames_of, bytes_of}
use Rattle.resample.specs.Stage.{frame_between}
use Rattle.resample.proofs.put_between.Given as goal

abbrev pub invariant-loop-c : goal.invariant-loop-c
invariant-loop-c g l =
    l.out ≡ splice l.initial.out (l.k * (g.row.C * 2)) ((l.k * g.row.C + l.c) * 2) (bytes_of (frame_between l.c (l.last ∷ frames_of g.row.C l.input) l.at.frame l.at.frac ∷ []))
