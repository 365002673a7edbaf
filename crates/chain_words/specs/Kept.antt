-- What calls write of a chain: memories and counters alone. Definitions only.
use Rattle.std.specs.Prelude.{◌≡◌, List, [], ◌∷◌, ℕ, suc, ◌+◌, ◌*◌, ◌≤◌, ◌<◌, length}
use Rattle.std.proofs.lemmas.List.Edits.{sets}
use Rattle.stage.specs.declared.Stage.{Stage}
use Rattle.pipeline.specs.declared.Pipeline.{Pipeline}
use Rattle.pipeline.specs.WritingBack.{stages_of}
use Rattle.stage_words.specs.Layout.{memory_words, word}
use Rattle.chain_words.specs.Layout.{counter_words}

-- the words once the memories of these stages are written, the first to stage i's place
unfoldable pub kept_words : List ℕ → ℕ → List Stage → List ℕ
kept_words w i [] = w
kept_words w i (s ∷ l) = kept_words (sets w (8 + 18 * i + 7) (memory_words s.memory)) (suc i) l

-- the memories of the stages in use, and both counters
unfoldable pub with_sound : List ℕ → List Stage → ℕ → ℕ → List ℕ
with_sound w l blocks empty = sets (kept_words w 0 l) 3 (counter_words blocks empty)

-- the memories of the stages in use and both counters to their words; every other word stays
abbrev pub sound_words : List ℕ → Pipeline → List ℕ
sound_words w c = with_sound w (stages_of c) c.blocks c.empty_blocks

-- only counters and memories of stages in use are altered: as many words as before, count, rate and channels, the word that is zero,
-- kind and settings of each stage, and all words past the stages in use stay
pub record SettingsStay (w w' : List ℕ) : Type 0 where
  pub long : length w' ≡ length w
  pub head : (j : ℕ) → j < 3 → word w' j ≡ word w j
  pub seventh : word w' 7 ≡ word w 7
  pub settings : (i j : ℕ) → j < 7 → word w' (8 + 18 * i + j) ≡ word w (8 + 18 * i + j)
  pub spare : (j : ℕ) → 8 + 18 * word w 0 ≤ j → word w' j ≡ word w j
