-- Mono to stereo, stereo to mono, and a saturating mix (document 01, channels.rs). Definitions only.
use Rattle.pcm.specs.declared.Error.{Error}
use Rattle.std.specs.Prelude.{◌&&◌, List, [], ◌∷◌, map, ℕ, ◌%◌, eqb, ℤ, ◌+ℤ◌, length, Ok, Err, Result}
use Rattle.pcm.specs.declared.Error.TheVariants.{InvalidGeometry}
use Rattle.pcm.specs.Refusals.{ask, refusal, room_verdict, Verdict}
use Rattle.pcm.specs.Samples.{held16, outside16, decode, encode}
use Rattle.pcm.specs.Frames.{Frame, frames_of, bytes_of, written}
use Rattle.counting.specs.Counting.{count_of}
use Rattle.mean.specs.Mean.{mean}
use Rattle.channels.specs.declared.MixTold.{MixTold}

-- mono to stereo doubles each sample
abbrev pub doubled : Frame → Frame
doubled [] = []
doubled (x ∷ f) = x ∷ x ∷ []

unfoldable pub stereo_bytes : List ℕ → List ℕ
stereo_bytes bytes = bytes_of (map doubled (frames_of 1 bytes))

-- stereo to mono is the mean of both (document 02, Q-6)
abbrev pub mixdown : Frame → Frame
mixdown [] = []
mixdown (l ∷ []) = []
mixdown (l ∷ r ∷ f) = mean l r ∷ []

unfoldable pub mono_bytes : List ℕ → List ℕ
mono_bytes bytes = bytes_of (map mixdown (frames_of 2 bytes))

-- mix_i16 adds two buffers sample by sample and saturates
unfoldable pub mixed : ℤ → ℤ → ℤ
mixed a b = held16 (a +ℤ b)

abbrev pub mixed_samples : List ℤ → List ℤ → List ℤ
mixed_samples [] ys = []
mixed_samples (x ∷ xs) [] = []
mixed_samples (x ∷ xs) (y ∷ ys) = mixed x y ∷ mixed_samples xs ys

-- how many of the sums are held back (document 02, Q-2): those outside the sample range
abbrev pub sums : List ℤ → List ℤ → List ℤ
sums [] ys = []
sums (x ∷ xs) [] = []
sums (x ∷ xs) (y ∷ ys) = (x +ℤ y) ∷ sums xs ys

unfoldable pub mix_clipped : List ℤ → List ℤ → ℕ
mix_clipped xs ys = count_of outside16 (sums xs ys)

unfoldable pub mixed_bytes : List ℕ → List ℕ → List ℕ
mixed_bytes a b = encode (mixed_samples (decode a) (decode b))

-- Equal and even lengths? else 4. Room? else 3, needed being the bytes to be written
unfoldable pub mix_verdict : List ℕ → List ℕ → List ℕ → Verdict
mix_verdict a b out = ask (eqb (length a) (length b) && eqb (length a % 2) 0) InvalidGeometry (room_verdict (length a) (length out))

-- the answer where the questions come to a verdict: an accepted mix tells how many sums were held back
abbrev pub answer_of_mixing : Verdict → ℕ → Result ℕ Error
answer_of_mixing (Ok _) clipped = Ok clipped
answer_of_mixing (Err e) clipped = Err e

unfoldable pub mix_answer : List ℕ → List ℕ → List ℕ → Result ℕ Error
mix_answer a b out = answer_of_mixing (mix_verdict a b out) (mix_clipped (decode a) (decode b))

-- the buffer afterwards: bytes past those written stay, and a refusal alters nothing
abbrev pub after_mix : (Result ℕ Error) → List ℕ → List ℕ → List ℕ → List ℕ
after_mix (Ok clipped) a b out = written (mixed_bytes a b) out
after_mix (Err e) a b out = out

-- ---- the paper's number, needed and count: of each case, and of a call whose questions came to a verdict
abbrev pub mix_told : (Result ℕ Error) → MixTold
mix_told (Ok clipped) = record { number = 0; needed = 0; clipped = clipped }
mix_told (Err e) = record { number = (refusal e).number; needed = (refusal e).needed; clipped = 0 }

abbrev pub told_of_mixing : Verdict → ℕ → MixTold
told_of_mixing (Ok _) clipped = record { number = 0; needed = 0; clipped = clipped }
told_of_mixing (Err e) clipped = record { number = (refusal e).number; needed = (refusal e).needed; clipped = 0 }
