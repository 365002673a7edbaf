-- The finish call (document 02, Q-1 and Q-2): from a chain and two halves to all that is there afterwards. Definitions only.
use Rattle.std.specs.Prelude.{List, [], ◌∷◌, ℕ, suc, ◌+◌, ◌*◌, leb, length, Ok, Err, Result}
use Rattle.pcm.specs.declared.Error.{Error}
use Rattle.pcm.specs.declared.PcmFormat.{PcmFormat}
use Rattle.pcm.specs.declared.Error.TheVariants.{InvalidFormat, BufferTooSmall}
use Rattle.pcm.specs.Refusals.{ask, Verdict}
use Rattle.pcm.specs.Frames.{Frame, bytes_of}
use Rattle.stage.specs.declared.Stage.{Stage}
use Rattle.stage.specs.Stages.{stage_clipped, format_after}
use Rattle.pipeline.specs.declared.Pipeline.{Pipeline}
use Rattle.pipeline.specs.Reset.{reset_call, format_leaving}
use Rattle.pipeline.specs.WritingBack.{stages_of}
use Rattle.block.specs.BlockCall.{legal, put, shorter}
use Rattle.turns.specs.Turns.{Halves}
use Rattle.answers.specs.Answers.{last_half}
use Rattle.answers.specs.declared.Answer.{Answer}
use Rattle.answers.specs.FinishAnswers.{finish_answer}
use Rattle.ending.specs.StageEnd.{stage_end, frames_at_end}

-- ---- the chain's end
-- stage 1 takes xs and ends; each later stage takes all that the one before delivers, and ends in turn; no stages: xs themselves
unfoldable pub chain_end : PcmFormat → List Stage → List Frame → List Frame
chain_end f [] xs = xs
chain_end f (s ∷ rest) xs = chain_end (format_after f s.kind) rest (stage_end f.channels s xs)

-- how many samples they hold back: each of those that it takes in this call; a last frame is as it arrived
unfoldable pub end_clipped : PcmFormat → List Stage → List Frame → ℕ
end_clipped f [] xs = 0
end_clipped f (s ∷ rest) xs = stage_clipped s xs + end_clipped (format_after f s.kind) rest (stage_end f.channels s xs)

-- ---- the questions
-- the room a stage wants here is the bytes that it delivers in this call, where n frames arrive
unfoldable pub room_at_end : PcmFormat → Stage → ℕ → ℕ
room_at_end f s n = frames_at_end s.kind s.memory n * ((format_after f s.kind).channels * 2)

-- At each stage, in chain order, does the shorter half hold the room wanted? else 3, with needed = twice that of the first stage short
unfoldable pub end_verdict : PcmFormat → List Stage → ℕ → ℕ → Verdict
end_verdict f [] n shorter = Ok tt
end_verdict f (s ∷ rest) n shorter =
    ask (leb (room_at_end f s n) shorter) (BufferTooSmall (2 * room_at_end f s n))
    (end_verdict (format_after f s.kind) rest (frames_at_end s.kind s.memory n) shorter)

-- Is the chain legal? else 1. Room? else 3. Nothing arrives at the first stage
unfoldable pub finish_verdict : Pipeline → ℕ → Verdict
finish_verdict c shorter = ask (legal c) InvalidFormat (end_verdict c.format (stages_of c) 0 shorter)

-- ---- an accepted finish
-- every stage from stage i + 1 on writes what it delivers at the front of its half; one that delivers nothing writes nothing and does not end the call
unfoldable pub ended_halves : ℕ → PcmFormat → List Stage → List Frame → Halves → Halves
ended_halves i f [] xs h = h
ended_halves i f (s ∷ rest) xs h = ended_halves (suc i) (format_after f s.kind) rest (stage_end f.channels s xs) (put i (bytes_of (stage_end f.channels s xs)) h)

-- what the call leaves behind
pub record FinishResult : Type 0 where
  pub chain : Pipeline
  pub answer : Result (Answer Unit) Error
  pub a : List ℕ
  pub b : List ℕ

-- how many bytes come out
abbrev pub finish_bytes : Pipeline → ℕ
finish_bytes c = length (bytes_of (chain_end c.format (stages_of c) []))

-- and how many samples are held back
abbrev pub finish_clipped : Pipeline → ℕ
finish_clipped c = end_clipped c.format (stages_of c) []

-- sound state is cleared as by reset; no counter moves
unfoldable pub finished : Pipeline → Halves → FinishResult
finished c h = record {
  chain = reset_call c;
  answer = Ok (finish_answer (format_leaving c.format (stages_of c)) (last_half c.count) (finish_bytes c) (finish_clipped c));
  a = (ended_halves 0 c.format (stages_of c) [] h).a;
  b = (ended_halves 0 c.format (stages_of c) [] h).b;
}

-- a refusal alters nothing
abbrev pub finish_concluded : Verdict → Pipeline → Halves → FinishResult
finish_concluded (Ok _) c h = finished c h
finish_concluded (Err e) c h = record { chain = c; answer = Err e; a = h.a; b = h.b }

-- the finish call: from the chain and the two halves to all that is there afterwards
unfoldable pub finish_call : Pipeline → List ℕ → List ℕ → FinishResult
finish_call c a b = finish_concluded (finish_verdict c (shorter a b)) c (record { a = a; b = b })
