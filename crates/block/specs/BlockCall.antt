-- The block call (document 01, pipeline.rs and 'The questions'; document 02, Q-2): from a chain and a call to all that is there afterwards. Definitions only.
use Rattle.pcm.specs.declared.Error.{Error}
use Rattle.std.specs.Prelude.{Bool, true, cond, ◌&&◌, List, [], ◌∷◌, ◌++◌, ℕ, suc, ◌*◌, ◌/◌, ◌%◌, min, eqb, leb, length, drop, Ok, Err, Result}
use Rattle.pcm.specs.declared.PcmFormat.{PcmFormat}
use Rattle.pcm.specs.declared.Error.TheVariants.{InvalidFormat, Unsupported, BufferTooSmall, InvalidGeometry, TooLong}
use Rattle.pcm.specs.Formats.{format_allowed}
use Rattle.pcm.specs.Refusals.{ask, Verdict}
use Rattle.pcm.specs.Frames.{Frame, frames_of, bytes_of, written}
use Rattle.stage.specs.declared.Stage.{Stage}
use Rattle.stage.specs.Stages.{stage_out, format_after}
use Rattle.stage.specs.Rooms.{stage_suits, frames_out, frames_wanted, room_wanted}
use Rattle.pipeline.specs.declared.Pipeline.{Pipeline}
use Rattle.pipeline.specs.WritingBack.{stages_of}
use Rattle.answers.specs.declared.Answer.{Answer}
use Rattle.block.specs.Chain.{chain_out, chain_next, chain_clipped}
use Rattle.pipeline.specs.Reset.{format_leaving}
use Rattle.questions.specs.Walk.{whole_frames, same_format, larger}
use Rattle.turns.specs.Turns.{Halves}
use Rattle.answers.specs.Answers.{last_half, counted_up, output_answer}

-- each stage suits the format that reaches it
unfoldable pub suited : PcmFormat → List Stage → Bool
suited f [] = true
suited f (s ∷ rest) = stage_suits f s.kind s.memory && suited (format_after f s.kind) rest

-- what the block call needs of a chain; one that opening accepted has it, and keeps it after any calls
unfoldable pub legal : Pipeline → Bool
legal c = leb c.count 8 && (format_allowed c.format && suited c.format (stages_of c))

-- ---- the questions
-- At each stage that will be reached, in chain order, does the shorter half hold the room wanted?
-- else 3, with needed = twice the room of the first stage short
unfoldable pub rooms_verdict : PcmFormat → List Stage → ℕ → ℕ → Verdict
rooms_verdict f [] n shorter = Ok tt
rooms_verdict f (s ∷ rest) n shorter =
    cond (eqb n 0) (Ok tt)
    (ask (leb (room_wanted f s.kind n) shorter) (BufferTooSmall (2 * room_wanted f s.kind n))
    (rooms_verdict (format_after f s.kind) rest (frames_out s.kind s.memory n) shorter))

-- for no stages, twice the block
abbrev pub halves_verdict : PcmFormat → List Stage → ℕ → ℕ → Verdict
halves_verdict f [] size shorter = ask (leb size shorter) (BufferTooSmall (2 * size)) (Ok tt)
halves_verdict f (s ∷ rest) size shorter = rooms_verdict f (s ∷ rest) (size / (f.channels * 2)) shorter

-- Is the chain legal? else 1. Whole frames, at least one? else 4. At most 8,192? else 10
abbrev pub size_asked : Pipeline → ℕ → Verdict → Verdict
size_asked c size next =
    ask (legal c) InvalidFormat
    (ask (whole_frames c.format size) InvalidGeometry
    (ask (leb (size / (c.format.channels * 2)) 8192) TooLong next))

-- then: In the chain's format? else 2. Room? else 3
unfoldable pub block_verdict : Pipeline → PcmFormat → ℕ → ℕ → Verdict
block_verdict c format size shorter =
    size_asked c size (ask (same_format c.format format) Unsupported (halves_verdict c.format (stages_of c) size shorter))

-- stage 1 writes to half a, stage 2 to b, stage 3 to a, and so on: stage i + 1 writes `out`
abbrev pub put : ℕ → List ℕ → Halves → Halves
put i out h =
    cond (eqb (i % 2) 0)
    (record { a = written out h.a; b = h.b })
    (record { a = h.a; b = written out h.b })

-- every stage from stage i + 1 on writes its output bytes at the front of its half; after one that delivers 0 bytes none is written
unfoldable pub passed : ℕ → List Stage → List Frame → Halves → Halves
passed i [] xs h = h
passed i (s ∷ rest) xs h = passed (suc i) rest (stage_out s xs) (put i (bytes_of (stage_out s xs)) h)

-- no stages: the block is copied to a
abbrev pub halves_after : List Stage → List Frame → List ℕ → Halves → Halves
halves_after [] xs bytes h = put 0 bytes h
halves_after (s ∷ rest) xs bytes h = passed 0 (s ∷ rest) xs h

-- what a call leaves behind
pub record BlockResult : Type 0 where
  pub chain : Pipeline
  pub answer : Result (Answer ℕ) Error
  pub a : List ℕ
  pub b : List ℕ

-- `blocks` grows with each accepted call, `empty_blocks` with each 'nothing yet'
abbrev pub counted_chain : Pipeline → List Stage → ℕ → Pipeline
counted_chain c stages len = record {
  stages = stages;
  count = c.count;
  format = c.format;
  blocks = counted_up c.blocks;
  empty_blocks = cond (eqb len 0) (counted_up c.empty_blocks) c.empty_blocks;
}

-- how many bytes come out of the block
abbrev pub output_bytes : Pipeline → List ℕ → ℕ
output_bytes c bytes = length (bytes_of (chain_out (stages_of c) (frames_of c.format.channels bytes)))

-- how many samples its stages hold back
abbrev pub block_clipped : Pipeline → List ℕ → ℕ
block_clipped c bytes = chain_clipped (stages_of c) (frames_of c.format.channels bytes)

unfoldable pub accepted : Pipeline → ℕ → List ℕ → Halves → BlockResult
accepted c timestamp bytes h = record {
  chain = counted_chain c (chain_next (stages_of c) (frames_of c.format.channels bytes) ++ drop c.count c.stages) (output_bytes c bytes);
  answer = Ok (output_answer (format_leaving c.format (stages_of c)) timestamp (last_half c.count) (output_bytes c bytes) (block_clipped c bytes));
  a = (halves_after (stages_of c) (frames_of c.format.channels bytes) bytes h).a;
  b = (halves_after (stages_of c) (frames_of c.format.channels bytes) bytes h).b;
}

abbrev pub shorter : List ℕ → List ℕ → ℕ
shorter a b = min (length a) (length b)

-- a refusal alters nothing
abbrev pub concluded : Verdict → Pipeline → ℕ → List ℕ → Halves → BlockResult
concluded (Ok _) c timestamp bytes h = accepted c timestamp bytes h
concluded (Err e) c timestamp bytes h = record { chain = c; answer = Err e; a = h.a; b = h.b }

-- the block call: from the chain, the block and the two halves to all that is there afterwards
unfoldable pub block_call : Pipeline → PcmFormat → ℕ → List ℕ → List ℕ → List ℕ → BlockResult
block_call c format timestamp bytes a b =
    concluded (block_verdict c format (length bytes) (shorter a b)) c timestamp bytes (record { a = a; b = b })

-- ---- scratch_bytes: if every stage delivered all that it wants room for
unfoldable pub largest_room : PcmFormat → List Stage → ℕ → ℕ
largest_room f [] n = 0
largest_room f (s ∷ rest) n = larger (room_wanted f s.kind n) (largest_room (format_after f s.kind) rest (frames_wanted s.kind n))

abbrev pub scratch_answer : Verdict → ℕ → Result ℕ Error
scratch_answer (Ok _) figure = Ok figure
scratch_answer (Err e) figure = Err e

-- twice the largest room on the way, the block itself included
abbrev pub scratch_figure : Pipeline → ℕ → ℕ
scratch_figure c size = 2 * larger size (largest_room c.format (stages_of c) (size / (c.format.channels * 2)))

unfoldable pub scratch_bytes : Pipeline → ℕ → Result ℕ Error
scratch_bytes c size = scratch_answer (size_asked c size (Ok tt)) (scratch_figure c size)
