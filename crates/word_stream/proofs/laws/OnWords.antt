-- Laws of the definitions in OnWords. Assumes nothing.
use Rattle.std.specs.Prelude.{◌≡◌, refl, List, ◌++◌, ℕ, ◌+◌, Ok, Err, Result}
use Rattle.std.proofs.Common.{sym, ap, ap₂, ◌∙◌}
use Rattle.pcm.specs.declared.Error.{Error}
use Rattle.pipeline.specs.declared.Pipeline.{Pipeline}
use Rattle.answers.specs.declared.Half.{Half}
use Rattle.answers.specs.declared.Half.TheVariants as half
use Rattle.answers.specs.declared.Answer.{Answer}
use Rattle.answers.specs.declared.Answer.TheVariants as answer
use Rattle.answers.specs.Answers.{half_number, output_of, answer_told}
use Rattle.answers.specs.FinishAnswers.{finish_told}
use Rattle.block.specs.BlockCall.{BlockResult, block_call}
use Rattle.finish.specs.FinishCall.{FinishResult, finish_call}
use Rattle.stream.specs.Calls.{Call, block, reset, finish, output_by, clipped_by, Run, fresh, joined_by, finished_by}
use Rattle.stream.specs.Stream.{Stream, fed, after_feeding, within, after_calls}
use Rattle.chain_words.specs.Layout.{chain_of_words}
use Rattle.answers.specs.declared.Told.{Told}
use Rattle.answers.specs.declared.FinishTold.{FinishTold}
use Rattle.muzgleur.specs.Results.{BlockOutcome, block_outcome, FinishOutcome, finish_outcome}
use Rattle.word_stream.specs.OnWords.{taken, WordRun, run_on_words, OnWords, none, played, ended, cleared}

-- a program takes what the call's answer names
taken_half : (side : Half) (len : ℕ) (a b : List ℕ) → taken 1 (half_number side) len a b ≡ output_of side len a b
taken_half half.A len a b = refl
taken_half half.B len a b = refl

taken_is : (x : Result (Answer ℕ) Error) (a b : List ℕ) → taken (answer_told x).outcome (answer_told x).half (answer_told x).len a b ≡ output_by x a b
taken_is (Ok (answer.Output f timestamp side len clipped)) a b = taken_half side len a b
taken_is (Ok (answer.NothingYet clipped)) a b = refl
taken_is (Err e) a b = refl

taken_at_end : (x : Result (Answer Unit) Error) (a b : List ℕ) → taken (finish_told x).outcome (finish_told x).half (finish_told x).len a b ≡ output_by x a b
taken_at_end (Ok (answer.Output f _ side len clipped)) a b = taken_half side len a b
taken_at_end (Ok (answer.NothingYet clipped)) a b = refl
taken_at_end (Err e) a b = refl

-- and its count is the answer's
told_clipped : (x : Result (Answer ℕ) Error) → (answer_told x).clipped ≡ clipped_by x
told_clipped (Ok (answer.Output f timestamp side len clipped)) = refl
told_clipped (Ok (answer.NothingYet clipped)) = refl
told_clipped (Err e) = refl

told_clipped_at_end : (x : Result (Answer Unit) Error) → (finish_told x).clipped ≡ clipped_by x
told_clipped_at_end (Ok (answer.Output f _ side len clipped)) = refl
told_clipped_at_end (Ok (answer.NothingYet clipped)) = refl
told_clipped_at_end (Err e) = refl

-- the chains that the words stand for, the outputs and the counts are those of the same calls on the chain
pub words_as_run : {o : Pipeline} {S : Stream} {r r' : WordRun} {calls : List Call} → OnWords o S r calls r' → after_calls o S (run_on_words r) calls ≡ run_on_words r'
words_as_run none = refl
words_as_run {o} {S} {r} (played {calls = calls} format timestamp bytes a b result w a₁ b₁ e more) =
    ap (λ (x : Run). after_calls o (after_feeding o (fed S) (block format timestamp bytes a b)) x calls) (sym (same_run (within S (run_on_words r)) (block_call (chain_of_words r.words) format timestamp bytes a b) result (chain_of_words w) a₁ b₁ e)) ∙ words_as_run more
  where
    same_run : (run : Run) (x : BlockResult) (result : Told) (c : Pipeline) (a b : List ℕ) → record { result = result; chain = c; a = a; b = b } ≡ block_outcome x
        → record { chain = c; joined = run.joined ++ taken result.outcome result.half result.len a b; clipped = run.clipped + result.clipped } ≡ joined_by run x
    same_run run x result c a b e =
        ap (λ (y : BlockOutcome). let z : Run = record { chain = y.chain; joined = run.joined ++ taken y.result.outcome y.result.half y.result.len y.a y.b; clipped = run.clipped + y.result.clipped } in z) e
        ∙ ap₂ (λ (l : List ℕ) (n : ℕ). let z : Run = record { chain = x.chain; joined = run.joined ++ l; clipped = run.clipped + n } in z) (taken_is x.answer x.a x.b) (told_clipped x.answer)
words_as_run {o} {S} {r} (ended {calls = calls} a b result w a₁ b₁ e more) =
    ap (λ (x : Run). after_calls o (after_feeding o (fed S) (finish a b)) x calls) (sym (same_run (within S (run_on_words r)) (finish_call (chain_of_words r.words) a b) result (chain_of_words w) a₁ b₁ e)) ∙ words_as_run more
  where
    same_run : (run : Run) (x : FinishResult) (result : FinishTold) (c : Pipeline) (a b : List ℕ) → record { result = result; chain = c; a = a; b = b } ≡ finish_outcome x
        → record { chain = c; joined = run.joined ++ taken result.outcome result.half result.len a b; clipped = run.clipped + result.clipped } ≡ finished_by run x
    same_run run x result c a b e =
        ap (λ (y : FinishOutcome). let z : Run = record { chain = y.chain; joined = run.joined ++ taken y.result.outcome y.result.half y.result.len y.a y.b; clipped = run.clipped + y.result.clipped } in z) e
        ∙ ap₂ (λ (l : List ℕ) (n : ℕ). let z : Run = record { chain = x.chain; joined = run.joined ++ l; clipped = run.clipped + n } in z) (taken_at_end x.answer x.a x.b) (told_clipped_at_end x.answer)
words_as_run {o} {S} (cleared {calls = calls} done e h more) =
    ap (λ (c : Pipeline). after_calls o (after_feeding o (fed S) reset) (fresh c) calls) (sym h) ∙ words_as_run more
