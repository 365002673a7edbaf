-- Laws of the definitions in Reset. Assumes nothing.
use Rattle.std.specs.Prelude.{◌≡◌, refl, List, [], ◌∷◌, ◌++◌, map, ℕ, zero, suc, take, drop}
use Rattle.std.proofs.Common.{ap}
use Rattle.stage.specs.declared.Stage.{Stage}
use Rattle.stage.specs.Stages.{stage_clear}

-- the stages in use are all cleared
pub front_cleared : (n : ℕ) (l : List Stage) → take n (map stage_clear (take n l) ++ drop n l) ≡ map stage_clear (take n l)
front_cleared zero l = refl
front_cleared (suc n) [] = refl
front_cleared (suc n) (s ∷ l) = ap (λ (m : List Stage). stage_clear s ∷ m) (front_cleared n l)
