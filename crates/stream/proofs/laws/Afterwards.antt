-- The stages in their sound state have the kinds that they were opened with. Assumes nothing.
use Rattle.std.specs.Prelude.{◌≡◌, refl, List, [], ◌∷◌}
use Rattle.std.proofs.Common.{ap}
use Rattle.pcm.specs.Frames.{Frame}
use Rattle.stage.specs.declared.StageKind.{StageKind}
use Rattle.stage.specs.Stages.{kinds_of}
use Rattle.stream.specs.PlainChain.{plain_stage, plain_state}

pub kinds_of_state : (ks : List StageKind) (X : List Frame) → kinds_of (plain_state ks X) ≡ ks
unfolding plain_state
kinds_of_state [] X = refl
kinds_of_state (k ∷ ks) X = ap (λ (l : List StageKind). k ∷ l) (kinds_of_state ks (plain_stage k X))
