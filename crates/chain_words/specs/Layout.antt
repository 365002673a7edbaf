-- A chain as plain words of 32 bits in the caller's memory: eight words for the chain, then eighteen for each of its eight stages. Definitions only.
--
--   word 0 count, 1 rate, 2 channels, 3 and 4 blocks, 5 and 6 empty blocks (low word first), 7 zero; stage i begins at word 8 + 18 i
use Rattle.std.specs.Prelude.{Bool, true, cond, ◌&&◌, List, [], ◌∷◌, ◌++◌, ℕ, zero, suc, ◌+◌, ◌*◌, ◌/◌, ◌%◌, ◌^◌, leb, length, drop, replicate}
use Rattle.pcm.specs.declared.PcmFormat.{PcmFormat}
use Rattle.stage.specs.declared.Stage.{Stage}
use Rattle.recipe.specs.Records.{of_stage}
use Rattle.pipeline.specs.declared.Pipeline.{Pipeline}
use Rattle.pipeline.specs.Opening.{unused_stage}
use Rattle.stage_words.specs.Layout.{words_of_stage, word, stage_of}

-- ---- a chain to words
-- both counters, low word first
abbrev pub counter_words : ℕ → ℕ → List ℕ
counter_words blocks empty = blocks % 2 ^ 32 ∷ blocks / 2 ^ 32 ∷ empty % 2 ^ 32 ∷ empty / 2 ^ 32 ∷ []

unfoldable pub head_words : Pipeline → List ℕ
head_words c = c.count % 2 ^ 32 ∷ c.format.rate ∷ c.format.channels ∷ (counter_words c.blocks c.empty_blocks ++ 0 ∷ [])

unfoldable pub stages_words : List Stage → List ℕ
stages_words [] = []
stages_words (s ∷ l) = words_of_stage s ++ stages_words l

unfoldable pub words_of : Pipeline → List ℕ
words_of c = head_words c ++ stages_words c.stages

-- ---- words to a chain
-- the words from stage i's place on
abbrev pub place_of : List ℕ → ℕ → List ℕ
place_of w i = drop (8 + 18 * i) w

abbrev pub stage_at : List ℕ → ℕ → Stage
stage_at w i = stage_of (place_of w i)

abbrev pub format_of : List ℕ → PcmFormat
format_of w = record { rate = word w 1; channels = word w 2 % 65536 }

abbrev pub counter_at : List ℕ → ℕ → ℕ
counter_at w i = word w i + 2 ^ 32 * word w (suc i)

-- n stages from stage i on
abbrev pub stages_from : List ℕ → ℕ → ℕ → List Stage
stages_from w i zero = []
stages_from w i (suc n) = stage_at w i ∷ stages_from w (suc i) n

unfoldable pub chain_at : List ℕ → Pipeline
chain_at w = record {
  stages = stages_from w 0 8;
  count = word w 0;
  format = format_of w;
  blocks = counter_at w 3;
  empty_blocks = counter_at w 5;
}

-- the kinds of the stages from i on, n of them, are such as a recipe knows
unfoldable pub kinds_known : List ℕ → ℕ → ℕ → Bool
kinds_known w i zero = true
kinds_known w i (suc n) = of_stage (word w (8 + 18 * i)) && kinds_known w (suc i) n

-- words stand for a chain where there are enough of them, the count is at most eight and the kinds of the stages in use are kinds of stages
unfoldable pub stands : List ℕ → Bool
stands w = leb 152 (length w) && (leb (word w 0) 8 && kinds_known w 0 (word w 0))

-- what every call refuses with 1
abbrev pub no_chain : Pipeline
no_chain = record { stages = replicate 8 unused_stage; count = 9; format = record { rate = 0; channels = 0 }; blocks = 0; empty_blocks = 0 }

-- the chain that words stand for
unfoldable pub chain_of_words : List ℕ → Pipeline
chain_of_words w = cond (stands w) (chain_at w) no_chain
