-- What a block call answers, document 01's number and values for each case, counters, halves and the output's part (pipeline.rs). Definitions only.
use Rattle.pcm.specs.declared.Error.{Error}
use Rattle.std.specs.Prelude.{cond, List, [], ℕ, zero, suc, ◌+◌, ◌%◌, eqb, leb, ltb, length, take, Ok, Err, Result}
use Rattle.pcm.specs.declared.PcmFormat.{PcmFormat}
use Rattle.answers.specs.declared.Half.{Half}
use Rattle.answers.specs.declared.Half.TheVariants as half
use Rattle.answers.specs.declared.Answer.{Answer}
use Rattle.answers.specs.declared.Answer.TheVariants as answer
use Rattle.pcm.specs.Refusals.{refusal, value_told}
use Rattle.pcm.specs.declared.Valued.{Valued}
use Rattle.answers.specs.declared.Told.{Told}
use Rattle.pcm.specs.Frames.{written}

-- the half that the last stage writes to
abbrev pub last_half : ℕ → Half
last_half zero = half.A
last_half (suc n) = cond (eqb (n % 2) 0) half.A half.B

-- a counter grows by one and stays at 2^64 - 1
abbrev pub counted_up : ℕ → ℕ
counted_up n = cond (ltb n 18446744073709551615) (n + 1) n

-- 'nothing yet' where no bytes come out; else the format, half and length of the output; the timestamp is copied through. Either way how many
-- samples the stages held back (document 02, Q-2)
abbrev pub output_answer : {T : Type 0} → PcmFormat → T → Half → ℕ → ℕ → Answer T
output_answer format timestamp side len clipped = cond (eqb len 0) (answer.NothingYet clipped) (answer.Output format timestamp side len clipped)

-- ---- the output as a part of the half that holds it, empty if the length given exceeds that half
abbrev pub front_of : ℕ → List ℕ → List ℕ
front_of n l = cond (leb n (length l)) (take n l) []

abbrev pub output_of : Half → ℕ → List ℕ → List ℕ → List ℕ
output_of half.A n a b = front_of n a
output_of half.B n a b = front_of n b

-- the sound that an answer names, none where it brought nothing yet
abbrev pub sound_of : {T : Type 0} → Answer T → List ℕ → List ℕ → List ℕ
sound_of (answer.Output format timestamp side len clipped) a b = output_of side len a b
sound_of (answer.NothingYet clipped) a b = []

-- 0 is half a, 1 is half b
abbrev pub half_number : Half → ℕ
half_number half.A = 0
half_number half.B = 1

-- ---- a block: number, needed and outcome (0 refused, 1 sound, 2 nothing yet), then format, timestamp, half and length of the sound, zero where there is none,
-- and how many samples were held back, 0 where the block is refused
abbrev pub sound_told : PcmFormat → ℕ → Half → ℕ → ℕ → Told
sound_told f timestamp side len clipped =
    record { number = 0; needed = 0; outcome = 1; rate = f.rate; channels = f.channels; timestamp = timestamp; half = half_number side; len = len; clipped = clipped }

abbrev pub silent_told : ℕ → ℕ → ℕ → ℕ → Told
silent_told number needed outcome clipped =
    record { number = number; needed = needed; outcome = outcome; rate = 0; channels = 0; timestamp = 0; half = 0; len = 0; clipped = clipped }

abbrev pub answer_told : Result (Answer ℕ) Error → Told
answer_told (Ok (answer.Output f timestamp side len clipped)) = sound_told f timestamp side len clipped
answer_told (Ok (answer.NothingYet clipped)) = silent_told 0 0 2 clipped
answer_told (Err e) = silent_told (refusal e).number (refusal e).needed 0 0

-- ---- scratch_bytes: number and value
abbrev pub scratch_told : (Result ℕ Error) → Valued
scratch_told = value_told

-- a counter that grows where no bytes came out
abbrev pub counted_if : ℕ → ℕ → ℕ
counted_if len n = cond (eqb len 0) (counted_up n) n

-- half a before the first stage: no stages, the block is copied to it
abbrev pub unstaged : ℕ → List ℕ → List ℕ → List ℕ
unstaged count block a = cond (eqb count 0) (written block a) a

-- after a stage that delivers 0 bytes no later one is run
abbrev pub next_stage : ℕ → ℕ → ℕ → ℕ
next_stage i count len = cond (eqb len 0) count (i + 1)
