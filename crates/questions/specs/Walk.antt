-- The questions of a block and of `scratch_bytes` (document 01, 'The questions') and of a finish (document 02, Q-1), as one walk along the
-- stages finds them. Definitions only.
use Rattle.std.specs.Prelude.{◌≡◌, Bool, cond, ◌&&◌, ℕ, ◌*◌, ◌%◌, ◌/◌, ◌≤◌, ◌<◌, eqb, leb, ltb, List, [], ◌∷◌, Option, None, Some, IfSome, Result, Ok, Err, IfOk}
use Rattle.pcm.specs.declared.PcmFormat.{PcmFormat}
use Rattle.pcm.specs.declared.Error.{Error}
use Rattle.pcm.specs.declared.Error.TheVariants.{InvalidFormat, Unsupported, BufferTooSmall, InvalidGeometry, TooLong}
use Rattle.pcm.specs.Formats.{OneOrTwo, format_allowed}
use Rattle.pcm.specs.Refusals.{ask, and_then, Verdict}
use Rattle.stage.specs.declared.Stage.{Stage}
use Rattle.stage.specs.Stages.{format_after}
use Rattle.stage.specs.Rooms.{FewFrames, stage_suits, frames_out, frames_wanted}
use Rattle.ending.specs.StageEnd.{frames_at_end}
use Rattle.questions.specs.declared.Question.{Question}
use Rattle.questions.specs.declared.Question.TheVariants.{Block, AnyState, Finish}
use Rattle.questions.specs.declared.Due.{Due}
use Rattle.questions.specs.declared.Walk.{Walk}

-- whole frames of the chain's format, at least one
abbrev pub whole_frames : PcmFormat → ℕ → Bool
whole_frames f size = ltb 0 size && eqb (size % (f.channels * 2)) 0

abbrev pub same_format : PcmFormat → PcmFormat → Bool
same_format f g = eqb f.rate g.rate && eqb f.channels g.channels

unfoldable pub larger : ℕ → ℕ → ℕ
larger a b = cond (leb a b) b a

-- ---- before the stages
-- at most eight stages, and an allowed format
abbrev pub head_legal : PcmFormat → ℕ → Bool
head_legal f count = leb count 8 && format_allowed f

-- Whole frames, at least one? else 4. At most 8,192? else 10
unfoldable pub size_verdict : PcmFormat → ℕ → Verdict
size_verdict f size = ask (whole_frames f size) InvalidGeometry (ask (leb (size / (f.channels * 2)) 8192) TooLong (Ok tt))

-- the frames of a block; none of one whose size is refused
abbrev pub frames_if : Verdict → ℕ → ℕ
frames_if (Ok _) n = n
frames_if (Err e) n = 0

unfoldable pub block_frames : PcmFormat → ℕ → ℕ
block_frames f size = frames_if (size_verdict f size) (size / (f.channels * 2))

-- ---- one stage
-- in frames, what a stage that n frames reach wants room for, and what it delivers:
-- of a block on the chain as it is, nothing where none reach it; in any state, as many as it wants room for; at a finish, room for what it
-- delivers
unfoldable pub due_of : Question → Stage → ℕ → Due
due_of Block s n = cond (eqb n 0) (record { wanted = 0; delivered = 0 }) (record { wanted = frames_wanted s.kind n; delivered = frames_out s.kind s.memory n })
due_of AnyState s n = record { wanted = frames_wanted s.kind n; delivered = frames_wanted s.kind n }
due_of Finish s n = record { wanted = frames_at_end s.kind s.memory n; delivered = frames_at_end s.kind s.memory n }

-- the room of the first stage that the shorter half does not hold, where one more wants `room`
unfoldable pub first_short : ℕ → Option ℕ → ℕ → Option ℕ
first_short shorter (Some short) room = Some short
first_short shorter None room = cond (leb room shorter) None (Some room)

-- the room, in bytes, of a stage that the walk has come to
unfoldable pub room_of : Question → Walk → Stage → ℕ
room_of q w s = (due_of q s w.frames).wanted * ((format_after w.format s.kind).channels * 2)

-- one stage further
unfoldable pub further : Question → ℕ → Walk → Stage → Walk
further q shorter w s = record {
  format = format_after w.format s.kind;
  frames = (due_of q s w.frames).delivered;
  largest = larger w.largest (room_of q w s);
  short = first_short shorter w.short (room_of q w s);
}

-- Does the stage suit the format that reaches it? else 1
unfoldable pub stepped : Question → ℕ → Walk → Stage → Result Walk Error
stepped q shorter w s = cond (stage_suits w.format s.kind s.memory) (Ok (further q shorter w s)) (Err InvalidFormat)

-- ---- the walk
-- so few frames in 1 or 2 channels that every figure fits
abbrev pub WalkFits : Walk → Type 0
WalkFits w = FewFrames w.frames × OneOrTwo w.format.channels

-- before the first stage: the frames of a block of `size` bytes; for no stages they want room themselves
abbrev pub copy_room : ℕ → ℕ → ℕ
copy_room count room = cond (eqb count 0) room 0

unfoldable pub begun : PcmFormat → ℕ → ℕ → ℕ → Walk
begun f count size shorter = record {
  format = f;
  frames = block_frames f size;
  largest = copy_room count (block_frames f size * (f.channels * 2));
  short = first_short shorter None (copy_room count (block_frames f size * (f.channels * 2)));
}

-- a refusal ends the walk
abbrev pub walk_on : Result Walk Error → (Walk → Result Walk Error) → Result Walk Error
walk_on (Ok w) next = next w
walk_on (Err e) next = Err e

-- along the stages, in chain order
unfoldable pub walked : Question → ℕ → Walk → List Stage → Result Walk Error
walked q shorter w [] = Ok w
walked q shorter w (s ∷ rest) = walk_on (stepped q shorter w s) (λ v. walked q shorter v rest)

-- what it finds of stages that all suit
unfoldable pub along : Question → ℕ → Walk → List Stage → Walk
along q shorter w [] = w
along q shorter w (s ∷ rest) = along q shorter (further q shorter w s) rest

-- a room of which twice fits a word
abbrev pub ShortFits : Option ℕ → Type 0
ShortFits short = IfSome short (λ room. room ≤ 3688000000000000000)

-- a walk that asked along the stages, and the bounds of its figures
pub record Walked (r found : Result Walk Error) : Type 0 where
  pub is : r ≡ found
  pub fits : IfOk r (λ w. (w.largest ≤ 3688000000000000000) × ShortFits w.short)

-- ---- what the walk answers
-- Is every stage legal? else 1. Then the size
unfoldable pub sized_from : PcmFormat → ℕ → Result Walk Error → Verdict
sized_from f size (Ok w) = size_verdict f size
sized_from f size (Err e) = Err e

-- Room? else 3, with needed = twice the room of the first stage short
abbrev pub short_verdict : Option ℕ → Verdict
short_verdict None = Ok tt
short_verdict (Some room) = Err (BufferTooSmall (2 * room))

-- the same, then: In the chain's format? else 2. Room?
unfoldable pub verdict_from : PcmFormat → PcmFormat → ℕ → Result Walk Error → Verdict
verdict_from own format size (Ok w) = and_then (size_verdict own size) (ask (same_format own format) Unsupported (short_verdict w.short))
verdict_from own format size (Err e) = Err e
