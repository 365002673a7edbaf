-- A chain's stages by their number. Assumes nothing.
use Rattle.std.specs.Prelude.{◌≡◌, refl, List, [], ◌∷◌, ℕ, ◌≤◌, ◌<◌, length, take, drop}
use Rattle.std.proofs.Common.{arith, length-take-le}
use Rattle.pcm.specs.Frames.{Frame}
use Rattle.stage.specs.declared.Stage.{Stage}
use Rattle.pipeline.specs.declared.Pipeline.{Pipeline}
use Rattle.turns.specs.Turns.{Halves}
use Rattle.pipeline.specs.WritingBack.{stages_of}
use Rattle.block.specs.BlockCall.{passed, halves_after}

pub no_stages : (c : Pipeline) → c.count ≡ 0 → stages_of c ≡ []
no_stages c e = rw e (none c.stages)
  where
    none : (l : List Stage) → take 0 l ≡ []
    none [] = refl
    none (x ∷ l) = refl

pub all_stages : (c : Pipeline) → c.count ≡ 0 → drop c.count c.stages ≡ c.stages
all_stages c e = rw e (zero_of c.stages)
  where
    zero_of : (l : List Stage) → drop 0 l ≡ l
    zero_of [] = refl
    zero_of (x ∷ l) = refl

pub some_stages : (c : Pipeline) → c.count ≤ 8 → (c.count ≡ 0 → ⊥) → length c.stages ≡ 8 → 0 < length (stages_of c)
some_stages c h z e = rw (length-take-le c.count c.stages (omega arith)) (omega arith)

pub halves_some : (l : List Stage) (xs : List Frame) (block : List ℕ) (h : Halves) → 0 < length l → passed 0 l xs h ≡ halves_after l xs block h
halves_some [] xs block h k = absurd (let b : ⊥ = omega arith in b)
halves_some (s ∷ l) xs block h k = refl

pub not_none : (l : List Stage) → 0 < length l → l ≡ [] → ⊥
not_none [] h e = omega arith
not_none (s ∷ l) h e = let z : ◌≡◌ {A = ℕ} 0 1 = cc in omega arith
