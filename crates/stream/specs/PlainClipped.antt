-- What the plain chain holds back (document 02, Q-2): each stage's count over all that it has received since it was opened. Definitions only.
use Rattle.std.specs.Prelude.{List, [], ◌∷◌, ℕ, ◌+◌}
use Rattle.pcm.specs.Frames.{Frame}
use Rattle.stage.specs.declared.StageKind.{StageKind}
use Rattle.stage.specs.Stages.{clipped_of, memory_as_opened}
use Rattle.stream.specs.PlainChain.{plain_stage}
use Rattle.stream.specs.PlainEnd.{plain_ended}

-- how many samples a stage that has received X has held back
abbrev pub plain_clipped : StageKind → List Frame → ℕ
plain_clipped k X = clipped_of k memory_as_opened X

-- the sum over the stages: stage 1 takes the whole stream, each later stage all that the one before makes of it
unfoldable pub clipped_through : (StageKind → List Frame → List Frame) → List StageKind → List Frame → ℕ
clipped_through makes [] X = 0
clipped_through makes (k ∷ ks) X = plain_clipped k X + clipped_through makes ks (makes k X)

abbrev pub plain_clips : List StageKind → List Frame → ℕ
plain_clips ks X = clipped_through plain_stage ks X

-- where each stage ends, and its last frame runs on through the later ones
abbrev pub plain_end_clips : List StageKind → List Frame → ℕ
plain_end_clips ks X = clipped_through plain_ended ks X
