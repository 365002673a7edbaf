-- Calls on a chain (document 01, 'The whole stream'; document 02, Q-1 and Q-2): each is the block call, reset or finish as their promises define them.
-- Definitions only.
use Rattle.std.specs.Prelude.{List, [], ◌++◌, ℕ, ◌+◌, Ok, Err, Result}
use Rattle.pcm.specs.declared.Error.{Error}
use Rattle.pcm.specs.declared.PcmFormat.{PcmFormat}
use Rattle.pcm.specs.Samples.{Bytes}
use Rattle.pipeline.specs.declared.Pipeline.{Pipeline}
use Rattle.pipeline.specs.Reset.{reset_call}
use Rattle.answers.specs.declared.Answer.{Answer}
use Rattle.answers.specs.declared.Answer.TheVariants as answer
use Rattle.block.specs.BlockCall.{BlockResult, block_call}
use Rattle.answers.specs.Answers.{sound_of}
use Rattle.finish.specs.FinishCall.{FinishResult, finish_call}

-- every call brings its own block and halves, of any bytes and lengths: format, timestamp, block, half a, half b; finish its two halves alone
pub data Call : Type 0 where
  block : PcmFormat → ℕ → List ℕ → List ℕ → List ℕ → Call
  reset : Call
  finish : List ℕ → List ℕ → Call

-- the block that is lent has bytes
abbrev pub Lent : Call → Type 0
Lent (block format timestamp bytes a b) = Bytes bytes
Lent reset = Unit {0}
Lent (finish a b) = Unit {0}

-- ---- a call's output, as the small call hands it back on return; 'nothing yet' or a number has empty output
abbrev pub output_by : {T : Type 0} → Result (Answer T) Error → List ℕ → List ℕ → List ℕ
output_by (Ok x) a b = sound_of x a b
output_by (Err e) a b = []

abbrev pub call_output : BlockResult → List ℕ
call_output r = output_by r.answer r.a r.b

abbrev pub finish_output : FinishResult → List ℕ
finish_output r = output_by r.answer r.a r.b

-- ---- how many samples it held back: an accepted call, 'nothing yet' too, answers the sum over its stages; a refusal has none
abbrev pub clipped_by : {T : Type 0} → Result (Answer T) Error → ℕ
clipped_by (Ok (answer.Output format timestamp side len clipped)) = clipped
clipped_by (Ok (answer.NothingYet clipped)) = clipped
clipped_by (Err e) = 0

-- ---- one call
-- the chain, and since its stream began the output joined and the samples held back
pub record Run : Type 0 where
  pub chain : Pipeline
  pub joined : List ℕ
  pub clipped : ℕ

-- where a stream begins
abbrev pub fresh : Pipeline → Run
fresh c = record { chain = c; joined = []; clipped = 0 }

abbrev pub joined_by : Run → BlockResult → Run
joined_by run r = record { chain = r.chain; joined = run.joined ++ call_output r; clipped = run.clipped + clipped_by r.answer }

abbrev pub finished_by : Run → FinishResult → Run
finished_by run r = record { chain = r.chain; joined = run.joined ++ finish_output r; clipped = run.clipped + clipped_by r.answer }

abbrev pub after_call : Run → Call → Run
after_call r (block format timestamp bytes a b) = joined_by r (block_call r.chain format timestamp bytes a b)
after_call r reset = fresh (reset_call r.chain)
after_call r (finish a b) = finished_by r (finish_call r.chain a b)
