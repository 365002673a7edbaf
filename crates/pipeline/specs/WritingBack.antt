-- Writing a chain's recipe: its questions, what is written, and the paper's number and values (document 01, 'The recipe' and 'The questions'). Definitions only.
use Rattle.pcm.specs.declared.Error.{Error}
use Rattle.std.specs.Prelude.{List, ℕ, leb, length, take, Ok, Err, Result}
use Rattle.pcm.specs.declared.Error.TheVariants.{InvalidFormat}
use Rattle.pcm.specs.Refusals.{ask, refusal, room_verdict, Verdict}
use Rattle.pcm.specs.Frames.{written}
use Rattle.stage.specs.declared.Stage.{Stage}
use Rattle.pipeline.specs.declared.Pipeline.{Pipeline}
use Rattle.pipeline.specs.declared.WriteTold.{WriteTold}
use Rattle.writing.specs.WritingBack.{recipe_of}

-- the stages in use
abbrev pub stages_of : Pipeline → List Stage
stages_of c = take c.count c.stages

-- the answer, and the buffer afterwards
pub record WriteOutcome : Type 0 where
  pub answer : Result ℕ Error
  pub out : List ℕ

-- is it a chain of at most eight stages? else 1. Is there room? else 3, with needed the bytes to be written
unfoldable pub write_verdict : Pipeline → ℕ → Verdict
write_verdict c room =
    ask (leb c.count 8) InvalidFormat
    (room_verdict (length (recipe_of (stages_of c))) room)

-- bytes past those written stay, and a refusal alters nothing
abbrev pub write_outcome : Verdict → List ℕ → List ℕ → WriteOutcome
write_outcome (Ok _) bytes out = record { answer = Ok (length bytes); out = written bytes out }
write_outcome (Err e) bytes out = record { answer = Err e; out = out }

unfoldable pub write_call : Pipeline → List ℕ → WriteOutcome
write_call c out = write_outcome (write_verdict c (length out)) (recipe_of (stages_of c)) out

-- ---- the paper's number, needed and length: of each case, and of a call whose questions came to a verdict
abbrev pub write_told : (Result ℕ Error) → WriteTold
write_told (Ok n) = record { number = 0; needed = 0; len = n }
write_told (Err e) = record { number = (refusal e).number; needed = (refusal e).needed; len = 0 }

abbrev pub told_of_writing : Verdict → ℕ → WriteTold
told_of_writing (Ok _) n = record { number = 0; needed = 0; len = n }
told_of_writing (Err e) n = record { number = (refusal e).number; needed = (refusal e).needed; len = 0 }
