-- The whole stream through the exported calls on words that the caller keeps: however many muzgleur_block, muzgleur_finish and muzgleur_reset
-- calls a program makes after muzgleur_open, accepted or not. Assumes nothing.
use Rattle.std.specs.Prelude.{◌≡◌, cond, List, [], ◌∷◌, ◌++◌, ℕ, ◌+◌, eqb}
use Rattle.pcm.specs.declared.PcmFormat.{PcmFormat}
use Rattle.pipeline.specs.declared.Pipeline.{Pipeline}
use Rattle.pipeline.specs.Reset.{reset_call}
use Rattle.block.specs.BlockCall.{block_call}
use Rattle.finish.specs.FinishCall.{finish_call}
use Rattle.answers.specs.Answers.{front_of}
use Rattle.answers.specs.declared.Told.{Told}
use Rattle.answers.specs.declared.FinishTold.{FinishTold}
use Rattle.stream.specs.Calls.{Call, block, reset, finish, Run}
use Rattle.stream.specs.Stream.{Stream, fed, after_feeding, gathered_in}
use Rattle.chain_words.specs.Layout.{chain_of_words}
use Rattle.chains.specs.Words.{Outcome, reset_outcome}
use Rattle.muzgleur.specs.Results.{block_outcome, finish_outcome}

-- the output that a program takes: where the outcome is 1, len bytes at the front of the half named
abbrev pub taken : ℕ → ℕ → ℕ → List ℕ → List ℕ → List ℕ
taken outcome half len a b = cond (eqb outcome 1) (front_of len (cond (eqb half 0) a b)) []

-- the words, and since their stream began the output joined and the samples held back
pub record WordRun : Type 0 where
  pub words : List ℕ
  pub joined : List ℕ
  pub clipped : ℕ

-- the run of the chain that the words stand for
abbrev pub run_on_words : WordRun → Run
run_on_words r = record { chain = chain_of_words r.words; joined = r.joined; clipped = r.clipped }

-- Calls one after another on words that stood for the chain o when its stream S was empty, from what was there so far to what is there
-- afterwards; a call after an accepted finish joins to nothing. The facts of each call are those that muzgleur_block, muzgleur_finish and
-- muzgleur_reset promise
pub data OnWords : Pipeline → Stream → WordRun → List Call → WordRun → Type 0 where
  none : {o : Pipeline} {S : Stream} {r : WordRun} → OnWords o S r [] r
  played : {o : Pipeline} {S : Stream} {r r' : WordRun} {calls : List Call} (format : PcmFormat) (timestamp : ℕ) (bytes a b : List ℕ) (result : Told) (w a₁ b₁ : List ℕ)
      → record { result = result; chain = chain_of_words w; a = a₁; b = b₁ } ≡ block_outcome (block_call (chain_of_words r.words) format timestamp bytes a b)
      → OnWords o (after_feeding o (fed S) (block format timestamp bytes a b))
      (record { words = w; joined = gathered_in S r.joined [] ++ taken result.outcome result.half result.len a₁ b₁; clipped = gathered_in S r.clipped 0 + result.clipped }) calls r'
      → OnWords o S r (block format timestamp bytes a b ∷ calls) r'
  ended : {o : Pipeline} {S : Stream} {r r' : WordRun} {calls : List Call} (a b : List ℕ) (result : FinishTold) (w a₁ b₁ : List ℕ)
      → record { result = result; chain = chain_of_words w; a = a₁; b = b₁ } ≡ finish_outcome (finish_call (chain_of_words r.words) a b)
      → OnWords o (after_feeding o (fed S) (finish a b))
      (record { words = w; joined = gathered_in S r.joined [] ++ taken result.outcome result.half result.len a₁ b₁; clipped = gathered_in S r.clipped 0 + result.clipped }) calls r'
      → OnWords o S r (finish a b ∷ calls) r'
  cleared : {o : Pipeline} {S : Stream} {r r' : WordRun} {calls : List Call} (done : Outcome)
      → done ≡ reset_outcome r.words
      → chain_of_words done.words ≡ reset_call (chain_of_words r.words)
      → OnWords o (after_feeding o (fed S) reset) (record { words = done.words; joined = []; clipped = 0 }) calls r'
      → OnWords o S r (reset ∷ calls) r'
