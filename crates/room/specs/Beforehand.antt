-- What is known beforehand, and what the block call and the finish then do (document 02, Q-5). Definitions only.
use Rattle.pcm.specs.Refusals.{Verdict}
use Rattle.std.specs.Prelude.{◌≡◌, List, [], ℕ, ◌-◌, ◌*◌, ◌≤◌, ◌<◌, length, Ok, Err}
use Rattle.pcm.specs.declared.Error.TheVariants.{BufferTooSmall}
use Rattle.pcm.specs.Samples.{Bytes}
use Rattle.pcm.specs.Frames.{Frame, FramesOf, frames_of}
use Rattle.pipeline.specs.declared.Pipeline.{Pipeline}
use Rattle.pipeline.specs.Reset.{format_leaving}
use Rattle.pipeline.specs.WritingBack.{stages_of}
use Rattle.turns.specs.Turns.{halves}
use Rattle.answers.specs.Answers.{last_half, output_answer}
use Rattle.answers.specs.FinishAnswers.{finish_answer}
use Rattle.block.specs.Chain.{chain_out}
use Rattle.block.specs.BlockCall.{block_verdict, block_clipped, accepted, block_call}
use Rattle.finish.specs.FinishCall.{chain_end, finish_verdict, finish_clipped, finished, finish_call}
use Rattle.room.specs.Room.{block_room, finish_room}

-- ---- the smallest halves
-- a shorter half that is too small: 3, with needed = twice the room of the first stage short, which is more than that half and at most `half`
pub record TooSmall (v : Verdict) (shorter half : ℕ) : Type 0 where
  pub first : ℕ
  pub verdict : v ≡ Err (BufferTooSmall (2 * first))
  pub above : shorter < first
  pub most : first ≤ half

-- a call comes to `verdict m` where its shorter half has m bytes: `half` is the smallest that is accepted
pub record Smallest (verdict : ℕ → Verdict) (half : ℕ) : Type 0 where
  pub enough : (shorter : ℕ) → half ≤ shorter → verdict shorter ≡ Ok tt
  pub one_less : 0 < half → verdict (half - 1) ≡ Err (BufferTooSmall (2 * half))
  pub too_small : (shorter : ℕ) → shorter < half → TooSmall (verdict shorter) shorter half

-- bytes of a frame that enters a chain, and of one that leaves it
abbrev pub frame_bytes : Pipeline → ℕ
frame_bytes c = c.format.channels * 2

abbrev pub leaving_bytes : Pipeline → ℕ
leaving_bytes c = (format_leaving c.format (stages_of c)).channels * 2

-- ---- of a block of n frames, `frames` and `half` were known. Document 02's sentences, by part:
--   exact      'the exact number of output frames', whatever the block's bytes
--   smallest   'the smallest equal halves that are accepted'; 'One byte less in each half is refused, where the figure is above 0'
--   delivers   the block call itself: with halves of that size, or of more, equal or not, it is accepted, and its answer is of that many frames,
--              'nothing yet' where they are none
--   refused    and with one byte less in each it is 3, needed is twice the figure, and nothing is altered
pub record BlockKnown (c : Pipeline) (n frames half : ℕ) : Type 0 where
  pub exact : (bytes : List ℕ) → length bytes ≡ n * frame_bytes c → length (chain_out (stages_of c) (frames_of c.format.channels bytes)) ≡ frames
  pub smallest : Smallest (block_verdict c c.format (n * frame_bytes c)) half
  pub delivers : (timestamp : ℕ) (bytes a b : List ℕ) → Bytes bytes → length bytes ≡ n * frame_bytes c → half ≤ length a → half ≤ length b
      → (block_call c c.format timestamp bytes a b ≡ accepted c timestamp bytes (halves a b))
      × ((block_call c c.format timestamp bytes a b).answer ≡ Ok (output_answer (format_leaving c.format (stages_of c)) timestamp (last_half c.count) (frames * leaving_bytes c) (block_clipped c bytes)))
  pub refused : (timestamp : ℕ) (bytes a b : List ℕ) → length bytes ≡ n * frame_bytes c → 0 < half → length a ≡ half - 1 → length b ≡ half - 1
      → block_call c c.format timestamp bytes a b ≡ record { chain = c; answer = Err (BufferTooSmall (2 * half)); a = a; b = b }

-- ---- 'The same for finish'
pub record FinishKnown (c : Pipeline) (frames half : ℕ) : Type 0 where
  pub exact : length (chain_end c.format (stages_of c) []) ≡ frames
  pub smallest : Smallest (finish_verdict c) half
  pub delivers : (a b : List ℕ) → half ≤ length a → half ≤ length b
      → (finish_call c a b ≡ finished c (halves a b))
      × ((finish_call c a b).answer ≡ Ok (finish_answer (format_leaving c.format (stages_of c)) (last_half c.count) (frames * leaving_bytes c) (finish_clipped c)))
  pub refused : (a b : List ℕ) → 0 < half → length a ≡ half - 1 → length b ≡ half - 1
      → finish_call c a b ≡ record { chain = c; answer = Err (BufferTooSmall (2 * half)); a = a; b = b }

-- ---- the answers, and what is then so
pub record BlockBeforehand (c : Pipeline) (n : ℕ) : Type 0 where
  pub frames : ℕ
  pub half : ℕ
  pub answer : block_room c n ≡ Ok (record { frames = frames; half = half })
  pub known : BlockKnown c n frames half

pub record FinishBeforehand (c : Pipeline) : Type 0 where
  pub frames : ℕ
  pub half : ℕ
  pub answer : finish_room c ≡ Ok (record { frames = frames; half = half })
  pub known : FinishKnown c frames half

-- ---- what these suppose of a chain, which one that was opened has after any calls: eight places; and where frames of 16-bit samples enter it,
-- frames of such samples leave it, at its end too
pub record Sounding (c : Pipeline) : Type 0 where
  pub places : length c.stages ≡ 8
  pub leaving : (xs : List Frame) → FramesOf c.format.channels xs → FramesOf (format_leaving c.format (stages_of c)).channels (chain_out (stages_of c) xs)
  pub ending : FramesOf (format_leaving c.format (stages_of c)).channels (chain_end c.format (stages_of c) [])
