-- Laws of words of which memories and counters alone are written: kinds, settings and all that is not in use stay. Assumes nothing.
use mathlib.Core.Path.{◌≡◌, refl, ◌∙◌}
use mathlib.Core.List.{List, [], ◌∷◌, ◌++◌}
use Prim.Native.Nat.{ℕ, suc, ◌+◌, ◌*◌}
use native.Mathlib.Omega.{arith}
use lib.ListN.{length}
use lib.Seq.{sets}
use Rattle.stage.specs.declared.Stage.{Stage}
use Rattle.stage_words.specs.Layout.{memory_words}
use Rattle.chain_words.specs.Kept.{kept_words}

-- one stage more
pub kept_next : (l : List Stage) (s : Stage) (w : List ℕ) (i : ℕ) → kept_words w i (l ++ s ∷ []) ≡ sets (kept_words w i l) (8 + 18 * (i + length l) + 7) (memory_words s.memory)
unfolding kept_words
kept_next [] s w i = let e : i + 0 ≡ i = omega arith in rw e
kept_next (t ∷ l) s w i = let e : suc i + length l ≡ i + suc (length l) = omega arith in kept_next l s (sets w (8 + 18 * i + 7) (memory_words t.memory)) (suc i) ∙ rw e

pub kept_none : (w : List ℕ) (i : ℕ) → kept_words w i [] ≡ w
unfolding kept_words
kept_none w i = refl
