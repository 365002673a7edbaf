-- The plain chain from any state (document 01, 'The whole stream'; document 02, Q-2): each stage takes all that the one before makes. Definitions only.
use Rattle.std.specs.Prelude.{List, [], ◌∷◌, ℕ, ◌+◌}
use Rattle.pcm.specs.Frames.{Frame}
use Rattle.stage.specs.declared.Stage.{Stage}
use Rattle.stage.specs.Stages.{stage_out, stage_next, stage_clipped}

-- what the stages make of frames: stage 1 takes them, each later stage all that the one before makes; no stages: the frames themselves
abbrev pub chain_out : List Stage → List Frame → List Frame
chain_out [] xs = xs
chain_out (s ∷ c) xs = chain_out c (stage_out s xs)

-- the stages afterwards
abbrev pub chain_next : List Stage → List Frame → List Stage
chain_next [] xs = []
chain_next (s ∷ c) xs = stage_next s xs ∷ chain_next c (stage_out s xs)

-- how many samples they hold back: the sum over the stages
abbrev pub chain_clipped : List Stage → List Frame → ℕ
chain_clipped [] xs = 0
chain_clipped (s ∷ c) xs = stage_clipped s xs + chain_clipped c (stage_out s xs)
