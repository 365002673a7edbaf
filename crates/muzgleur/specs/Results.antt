-- What the exported calls answer and leave in the words. Definitions only.
use Rattle.pcm.specs.declared.Error.{Error}
use Rattle.std.specs.Prelude.{Bool, cond, List, ℕ, eqb, leb, length, Ok, Err, Result}
use Rattle.pcm.specs.declared.PcmFormat.{PcmFormat}
use Rattle.pcm.specs.Frames.{written}
use Rattle.pcm.specs.Refusals.{refusal}
use Rattle.pipeline.specs.declared.Pipeline.{Pipeline}
use Rattle.pipeline.specs.Reset.{reset_call}
use Rattle.answers.specs.declared.Told.{Told}
use Rattle.answers.specs.declared.FinishTold.{FinishTold}
use Rattle.answers.specs.FinishAnswers.{finish_told}
use Rattle.block.specs.BlockCall.{BlockResult}
use Rattle.answers.specs.Answers.{answer_told, scratch_told}
use Rattle.chain_words.specs.Kept.{sound_words}
use Rattle.chain_words.specs.Layout.{words_of, chain_of_words}
use Rattle.chains.specs.Words.{Outcome}
use Rattle.finish.specs.FinishCall.{FinishResult}
use Rattle.muzgleur.specs.declared.CounterResult.{CounterResult}
use Rattle.muzgleur.specs.declared.Format.{Format}
use Rattle.muzgleur.specs.declared.ScratchResult.{ScratchResult}

-- ---- opening: the chain to the front of the words; a refusal alters none
abbrev pub opened_words : List ℕ → Result Pipeline Error → Outcome
opened_words w (Ok c) = record { number = 0; words = written (words_of c) w }
opened_words w (Err e) = record { number = (refusal e).number; words = w }

-- too few words are 1
abbrev pub open_outcome : List ℕ → Result Pipeline Error → Outcome
open_outcome w o = cond (leb 152 (length w)) (opened_words w o) (record { number = 1; words = w })

-- ---- a block
-- the answer, the chain that the words stand for, and both halves afterwards
pub record BlockOutcome : Type 0 where
  pub result : Told
  pub chain : Pipeline
  pub a : List ℕ
  pub b : List ℕ

abbrev pub block_outcome : BlockResult → BlockOutcome
block_outcome r = record { result = answer_told r.answer; chain = r.chain; a = r.a; b = r.b }

-- ---- a finish
-- the answer, the chain that the words stand for, and both halves after a finish
pub record FinishOutcome : Type 0 where
  pub result : FinishTold
  pub chain : Pipeline
  pub a : List ℕ
  pub b : List ℕ

abbrev pub finish_outcome : FinishResult → FinishOutcome
finish_outcome r = record { result = finish_told r.answer; chain = r.chain; a = r.a; b = r.b }

-- a finish that is refused leaves every word, an accepted one leaves them as a reset does
abbrev pub finish_words : ℕ → List ℕ → List ℕ
finish_words outcome w = cond (eqb outcome 0) w (sound_words w (reset_call (chain_of_words w)))

-- ---- the other calls
abbrev pub counter_result : Bool → Pipeline → CounterResult
counter_result known c = record { number = cond known 0 1; blocks = c.blocks; empty_blocks = c.empty_blocks }

abbrev pub format_result : PcmFormat → Format
format_result f = record { rate = f.rate; channels = f.channels }

abbrev pub scratch_result : (Result ℕ Error) → ScratchResult
scratch_result s = record { number = (scratch_told s).number; value = (scratch_told s).value }
