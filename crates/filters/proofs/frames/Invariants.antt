use Rattle.std.proofs.Common.{◌+◌, ◌*◌, length, [], take, drop, get_or}
use Rattle.pcm.specs.Frames.{frames_of}
use Rattle.filters.specs.Filters.{taps_of}
use Rattle.filters.proofs.Loop.{Ticking, Filtering}
use Rattle.filters.proofs.frames.Given as goal

-- k frames are done
abbrev pub invariant-loop-k : goal.invariant-loop-k
invariant-loop-k g l =
    let fs = frames_of g.row.C l.input in
    Filtering (g.T.Tick.tick l.filter) (taps_of l.fn.memory) fs (length l.input) l.fn.out l.taps l.out l.clipped (l.k * g.row.C * 2) [] (drop l.k fs)

-- and c samples of the next one are ticked
abbrev pub invariant-loop-c : goal.invariant-loop-c
invariant-loop-c g l = Ticking (g.T.Tick.tick l.filter) l.initial.taps (get_or (frames_of g.row.C l.input) l.k []) l.taps l.c

-- and then written
abbrev pub invariant-loop-c-2 : goal.invariant-loop-c-2
invariant-loop-c-2 g l =
    let fs = frames_of g.row.C l.input in
    Filtering (g.T.Tick.tick l.filter) (taps_of l.fn.memory) fs (length l.input) l.fn.out l.taps l.out l.clipped ((l.k * g.row.C + l.c) * 2) (drop l.c (take g.row.C l.taps)) (drop (l.k + 1) fs)
