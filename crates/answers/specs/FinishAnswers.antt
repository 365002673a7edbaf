-- What a finish answers, and document 02's number and values for each case (Q-1, Q-2). Definitions only.
use Rattle.std.specs.Prelude.{ℕ, Ok, Err, Result}
use Rattle.pcm.specs.declared.Error.{Error}
use Rattle.pcm.specs.declared.PcmFormat.{PcmFormat}
use Rattle.pcm.specs.Refusals.{refusal}
use Rattle.answers.specs.declared.Half.{Half}
use Rattle.answers.specs.declared.Answer.{Answer}
use Rattle.answers.specs.declared.Answer.TheVariants as answer
use Rattle.answers.specs.declared.FinishTold.{FinishTold}
use Rattle.answers.specs.Answers.{output_answer, half_number}

-- as a block: 'nothing yet' where no bytes come out; else the format, half and length of the output; a finish has no timestamp. Either way how
-- many samples the stages held back (Q-2)
abbrev pub finish_answer : PcmFormat → Half → ℕ → ℕ → Answer Unit
finish_answer format side len clipped = output_answer format tt side len clipped

-- number, needed and outcome (0 refused, 1 sound, 2 nothing yet), then format, half and length of the sound, zero where there is none, and how
-- many samples were held back, 0 where the finish is refused
abbrev pub sound_finish_told : PcmFormat → Half → ℕ → ℕ → FinishTold
sound_finish_told f side len clipped =
    record { number = 0; needed = 0; outcome = 1; rate = f.rate; channels = f.channels; half = half_number side; len = len; clipped = clipped }

abbrev pub silent_finish_told : ℕ → ℕ → ℕ → ℕ → FinishTold
silent_finish_told number needed outcome clipped =
    record { number = number; needed = needed; outcome = outcome; rate = 0; channels = 0; half = 0; len = 0; clipped = clipped }

abbrev pub finish_told : Result (Answer Unit) Error → FinishTold
finish_told (Ok (answer.Output f _ side len clipped)) = sound_finish_told f side len clipped
finish_told (Ok (answer.NothingYet clipped)) = silent_finish_told 0 0 2 clipped
finish_told (Err e) = silent_finish_told (refusal e).number (refusal e).needed 0 0
