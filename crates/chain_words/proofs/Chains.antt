-- Laws of whole chains: words that were written for a chain stand for it. Assumes nothing.
use mathlib.Core.Path.{◌≡◌, refl, sym, ap, ◌∙◌, subst}
use mathlib.Core.Bool.{Bool, true, false, ◌&&◌}
use Rattle.std.proofs.Math.Decide.{dec_lt}
use mathlib.Core.List.{List, [], ◌∷◌, ◌++◌, append_assoc, append-nil}
use Prim.Native.Nat.{ℕ, zero, suc, ◌+◌, ◌*◌, ◌≤◌, ◌<◌}
use native.Mathlib.Numerals.{add-one}
use native.Mathlib.Omega.{arith}
use lib.ListN.{length, get_or, take}
use Rattle.pcm.specs.Samples.{All}
use Rattle.stage.specs.declared.Stage.{Stage}
use Rattle.recipe.specs.Records.{of_stage}
use Rattle.pipeline.specs.Opening.{unused_stage}
use Rattle.stage_words.specs.Layout.{words_of_stage, word}
use Rattle.stage_words.specs.Storable.{Small}
use Rattle.stage_words.specs.laws.Reading.{small_stage}
use Rattle.chain_words.specs.Layout.{stages_words, place_of, stages_from, kinds_known, no_chain}
use Rattle.chain_words.specs.laws.Places.{place_small}

-- ---- the stages one at a time
pub stages_next : (l : List Stage) (i : ℕ) (d : Stage) → i < length l → stages_words (take (i + 1) l) ≡ stages_words (take i l) ++ words_of_stage (get_or l i d)
unfolding stages_words
stages_next l i d h = rw add-one (go l i h)
  where
    go : (l : List Stage) (i : ℕ) → i < length l → stages_words (take (suc i) l) ≡ stages_words (take i l) ++ words_of_stage (get_or l i d)
    go [] i h = absurd (let z : ⊥ = omega arith in z)
    go (s ∷ l) zero h = append-nil (words_of_stage s)
    go (s ∷ l) (suc i) h = ap (λ (x : List ℕ). words_of_stage s ++ x) (go l i (omega arith)) ∙ sym (append_assoc (words_of_stage s) (stages_words (take i l)) (words_of_stage (get_or l i d)))

pub no_stages : stages_words [] ≡ []
unfolding stages_words
no_stages = refl

-- the kinds are known where each of them is
module _ (w : List ℕ) where
  pub each_known : (i n : ℕ) → ((k : ℕ) → i ≤ k → k < i + n → of_stage (word w (8 + 18 * k)) ≡ true) → kinds_known w i n ≡ true
  unfolding kinds_known
  each_known i zero h = refl
  each_known i (suc n) h = rw (h i (omega arith) (omega arith)) (each_known (suc i) n (λ k a b. h k (omega arith) (omega arith)))

  pub some_unknown : (i n k : ℕ) → i ≤ k → k < i + n → of_stage (word w (8 + 18 * k)) ≡ false → kinds_known w i n ≡ false
  unfolding kinds_known
  some_unknown i zero k a b e = absurd (let z : ⊥ = omega arith in z)
  some_unknown i (suc n) k a b e = go (dec_lt i k) (λ l. some_unknown (suc i) n k (omega arith) (omega arith) e)
    where
      later : (c : Bool) → kinds_known w (suc i) n ≡ false → (c && kinds_known w (suc i) n) ≡ false
      later true q = q
      later false q = refl

      go : Dec (i < k) → (i < k → kinds_known w (suc i) n ≡ false) → (of_stage (word w (8 + 18 * i)) && kinds_known w (suc i) n) ≡ false
      go (yes l) f = later (of_stage (word w (8 + 18 * i))) (f l)
      go (no l) f = let q : k ≡ i = omega arith in rw (subst (λ (j : ℕ). of_stage (word w (8 + 18 * j)) ≡ false) q e)

-- ---- a chain of words is small
pub small_stages : (w : List ℕ) → ((i : ℕ) → word w i < 4294967296) → (i n : ℕ) → All Small (stages_from w i n)
small_stages w h i zero = tt
small_stages w h i (suc n) = (small_stage (place_of w i) (place_small w i h), small_stages w h (suc i) n)

pub no_chain_small : All Small no_chain.stages
no_chain_small =
    let s : Small unused_stage = record { kind = tt; phase = omega arith } in
    (s, (s, (s, (s, (s, (s, (s, (s, tt))))))))
