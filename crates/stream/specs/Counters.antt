-- What the counters count in any calls (document 01, pipeline.rs; document 02, Q-1). Definitions only.
use Rattle.pcm.specs.Refusals.{Verdict}
use Rattle.std.specs.Prelude.{cond, List, [], ◌∷◌, ℕ, ◌+◌, leb, Ok, Err, Result}
use Rattle.pcm.specs.declared.Error.{Error}
use Rattle.pcm.specs.Frames.{Frame}
use Rattle.pipeline.specs.declared.Pipeline.{Pipeline}
use Rattle.answers.specs.declared.Answer.{Answer}
use Rattle.answers.specs.declared.Answer.TheVariants as answer
use Rattle.block.specs.BlockCall.{shorter, block_call}
use Rattle.stream.specs.Calls.{Call, block, reset, finish, Run, after_call}
use Rattle.stream.specs.Opened.{kinds_in}
use Rattle.stream.specs.PlainRoom.{plain_verdict}
use Rattle.stream.specs.Stream.{Stream, running, fed, after_feeding}

-- ---- definitions
-- held at 2^64 - 1
unfoldable pub held_count : ℕ → ℕ
held_count n = cond (leb n 18446744073709551615) n 18446744073709551615

abbrev pub one_if_accepted : Verdict → ℕ
one_if_accepted (Ok _) = 1
one_if_accepted (Err e) = 0

-- the accepted blocks in a call on the chain o, after the stream X: one or none
abbrev pub accepted_by : Pipeline → List Frame → Call → ℕ
accepted_by o X (block format timestamp bytes a b) = one_if_accepted (plain_verdict o.format (kinds_in o) X format bytes (shorter a b))
accepted_by o X reset = 0
accepted_by o X (finish a b) = 0

abbrev pub accepted_from : Pipeline → Stream → List Call → ℕ
accepted_from o S [] = 0
accepted_from o S (call ∷ calls) = accepted_by o (fed S) call + accepted_from o (after_feeding o (fed S) call) calls

-- the accepted blocks in calls on the chain o, before and after resets and finishes
abbrev pub accepted_blocks : Pipeline → List Call → ℕ
accepted_blocks o calls = accepted_from o (running []) calls

-- one for 'nothing yet'
abbrev pub one_if_nothing : Result (Answer ℕ) Error → ℕ
one_if_nothing (Ok (answer.Output format timestamp side len clipped)) = 0
one_if_nothing (Ok (answer.NothingYet clipped)) = 1
one_if_nothing (Err e) = 0

-- the block calls that answer 'nothing yet'; finish moves no counter
abbrev pub nothing_by : Run → Call → ℕ
nothing_by r (block format timestamp bytes a b) = one_if_nothing (block_call r.chain format timestamp bytes a b).answer
nothing_by r reset = 0
nothing_by r (finish a b) = 0

abbrev pub nothing_from : Run → List Call → ℕ
nothing_from r [] = 0
nothing_from r (call ∷ calls) = nothing_by r call + nothing_from (after_call r call) calls
