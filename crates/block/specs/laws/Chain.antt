-- Laws of the definitions in Chain. Assumes nothing.
use Rattle.std.specs.Prelude.{◌≡◌, refl, List, [], ◌∷◌, ◌++◌, map, suc, ◌+◌, length}
use Rattle.std.proofs.Common.{ap, ap₂, ◌∙◌, arith}
use Rattle.pcm.specs.Frames.{Frame}
use Rattle.stage.specs.declared.Stage.{Stage}
use Rattle.stage.specs.Stages.{stage_out, stage_next, stage_clear}
use Rattle.stage.specs.laws.Stages.{stage_out-nil, stage_next-nil, stage_out-append, stage_next-append, stage_clipped-nil, stage_clipped-append, stage_clear_next}
use Rattle.block.specs.Chain.{chain_out, chain_next, chain_clipped}

-- ---- laws: nothing from nothing, and a stream in two parts is the whole
pub chain_out-nil : (c : List Stage) → chain_out c [] ≡ []
chain_out-nil [] = refl
chain_out-nil (s ∷ c) = ap (chain_out c) (stage_out-nil s) ∙ chain_out-nil c

pub chain_next-nil : (c : List Stage) → chain_next c [] ≡ c
chain_next-nil [] = refl
chain_next-nil (s ∷ c) = ap₂ (λ (a : Stage) (b : List Stage). a ∷ b) (stage_next-nil s) (ap (chain_next c) (stage_out-nil s) ∙ chain_next-nil c)

pub chain_out-append : (c : List Stage) (xs ys : List Frame) → chain_out c (xs ++ ys) ≡ chain_out c xs ++ chain_out (chain_next c xs) ys
chain_out-append [] xs ys = refl
chain_out-append (s ∷ c) xs ys = ap (chain_out c) (stage_out-append s xs ys) ∙ chain_out-append c (stage_out s xs) (stage_out (stage_next s xs) ys)

pub chain_next-append : (c : List Stage) (xs ys : List Frame) → chain_next c (xs ++ ys) ≡ chain_next (chain_next c xs) ys
chain_next-append [] xs ys = refl
chain_next-append (s ∷ c) xs ys =
    ap₂ (λ (a : Stage) (b : List Stage). a ∷ b) (stage_next-append s xs ys) (ap (chain_next c) (stage_out-append s xs ys) ∙ chain_next-append c (stage_out s xs) (stage_out (stage_next s xs) ys))

-- what they hold back adds up over any cutting
pub chain_clipped-nil : (c : List Stage) → chain_clipped c [] ≡ 0
chain_clipped-nil [] = refl
chain_clipped-nil (s ∷ c) = omega (arith, stage_clipped-nil s, ap (chain_clipped c) (stage_out-nil s), chain_clipped-nil c)

pub chain_clipped-append : (c : List Stage) (xs ys : List Frame) → chain_clipped c (xs ++ ys) ≡ chain_clipped c xs + chain_clipped (chain_next c xs) ys
chain_clipped-append [] xs ys = refl
chain_clipped-append (s ∷ c) xs ys =
    omega (arith, stage_clipped-append s xs ys, ap (chain_clipped c) (stage_out-append s xs ys), chain_clipped-append c (stage_out s xs) (stage_out (stage_next s xs) ys))

pub chain_clear_next : (c : List Stage) (xs : List Frame) → map stage_clear (chain_next c xs) ≡ map stage_clear c
chain_clear_next [] xs = refl
chain_clear_next (s ∷ c) xs = ap₂ (λ (a : Stage) (b : List Stage). a ∷ b) (stage_clear_next s xs) (chain_clear_next c (stage_out s xs))

pub length_chain_next : (c : List Stage) (xs : List Frame) → length (chain_next c xs) ≡ length c
length_chain_next [] xs = refl
length_chain_next (s ∷ c) xs = ap suc (length_chain_next c (stage_out s xs))
