-- The room known beforehand (document 02, Q-5). Definitions only.
use Rattle.pcm.specs.declared.Error.{Error}
use Rattle.room.specs.declared.Room.{Room}
use Rattle.std.specs.Prelude.{ℕ, cond, ◌*◌, leb, ltb, Ok, Err, Result}
use Rattle.pcm.specs.declared.Error.TheVariants.{InvalidFormat, InvalidGeometry, TooLong}
use Rattle.pcm.specs.Refusals.{ask, number_of, if_accepted, refusal, Verdict}
use Rattle.pipeline.specs.declared.Pipeline.{Pipeline}
use Rattle.pipeline.specs.WritingBack.{stages_of}
use Rattle.questions.specs.declared.Question.{Question}
use Rattle.questions.specs.declared.Question.TheVariants.{Block, Finish}
use Rattle.questions.specs.declared.Walk.{Walk}
use Rattle.questions.specs.Walk.{begun, along}
use Rattle.block.specs.BlockCall.{legal}
use Rattle.room.specs.declared.RoomTold.{RoomTold}

-- ---- what the stages of the chain in its present state will want and deliver, where `size` bytes arrive: by the one walk that asks a call's
-- questions; no half is lent
unfoldable pub found : Question → Pipeline → ℕ → Walk
found q c size = along q 0 (begun c.format c.count size 0) (stages_of c)

-- of a block of n frames
abbrev pub block_found : Pipeline → ℕ → Walk
block_found c n = found Block c (n * (c.format.channels * 2))

-- of a finish, in which nothing arrives
abbrev pub finish_found : Pipeline → Walk
finish_found c = found Finish c 0

-- and where one of them is not legal, 1 in its place
abbrev pub if_legal : Pipeline → Walk → Result Walk Error
if_legal c w = cond (legal c) (Ok w) (Err InvalidFormat)

-- ---- the questions
-- 'A frame count outside the limits gets 4 for none and 10 for too many'
abbrev pub frames_verdict : ℕ → Verdict
frames_verdict n = ask (ltb 0 n) InvalidGeometry (ask (leb n 8192) TooLong (Ok tt))

-- Is the chain legal? else 1. Then the frames
abbrev pub block_asked : Pipeline → ℕ → Verdict
block_asked c n = ask (legal c) InvalidFormat (frames_verdict n)

abbrev pub finish_asked : Pipeline → Verdict
finish_asked c = ask (legal c) InvalidFormat (Ok tt)

-- ---- the answer
-- 'the exact number of output frames', those that leave the last stage, 'and the smallest equal halves that are accepted': in bytes of one half
-- the largest room wanted over the stages that will be reached, for no stages by the block; at a finish a stage wants room for what it delivers
abbrev pub room_answer : Verdict → Walk → Result Room Error
room_answer (Ok _) w = Ok (record { frames = w.frames; half = w.largest })
room_answer (Err e) w = Err e

unfoldable pub block_room : Pipeline → ℕ → Result Room Error
block_room c n = room_answer (block_asked c n) (block_found c n)

-- 'The same for finish'
unfoldable pub finish_room : Pipeline → Result Room Error
finish_room c = room_answer (finish_asked c) (finish_found c)

-- ---- number and values: of each case, and by what the questions came to
abbrev pub room_told : (Result Room Error) → RoomTold
room_told (Ok known) = record { number = 0; frames = known.frames; half = known.half }
room_told (Err e) = record { number = (refusal e).number; frames = 0; half = 0 }

abbrev pub told_of_room : Verdict → Walk → RoomTold
told_of_room v w = record { number = number_of v; frames = if_accepted v w.frames 0; half = if_accepted v w.largest 0 }

abbrev pub block_room_told : Pipeline → ℕ → RoomTold
block_room_told c n = told_of_room (block_asked c n) (block_found c n)

abbrev pub finish_room_told : Pipeline → RoomTold
finish_room_told c = told_of_room (finish_asked c) (finish_found c)
