-- What a reset leaves in the words. Definitions only.
use Rattle.std.specs.Prelude.{cond, List, ℕ}
use Rattle.pipeline.specs.Reset.{reset_call}
use Rattle.chain_words.specs.Kept.{sound_words}
use Rattle.chain_words.specs.Layout.{stands, chain_of_words}

-- 0 or a refusal's number, and the words afterwards
pub record Outcome : Type 0 where
  pub number : ℕ
  pub words : List ℕ

-- words that stand for no chain are 1, and stay
abbrev pub reset_outcome : List ℕ → Outcome
reset_outcome w = cond (stands w) (record { number = 0; words = sound_words w (reset_call (chain_of_words w)) }) (record { number = 1; words = w })
