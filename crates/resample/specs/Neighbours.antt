-- What is said of each sample delivered: its value, between its two neighbours in its channel, near the line. Assumes nothing.
use Rattle.std.specs.Prelude.{◌≡◌, List, [], ◌∷◌, ℕ, suc, ◌/◌, ◌%◌, ◌<◌, ℤ, pos, length, get_or}
use Rattle.pcm.specs.Samples.{Samples}
use Rattle.pcm.specs.Frames.{Frame, FramesOf}
use Rattle.resample.specs.Value.{value, Between, NearLine}

-- sample c of frame g
abbrev pub sample_in : List Frame → ℕ → ℕ → ℤ
sample_in X g c = get_or (get_or X g []) c (pos 0)

-- v is sample c of the output at num / out_r of the frames X
pub record DeliveredSample (o num : ℕ) (X : List Frame) (c : ℕ) (v : ℤ) : Type 0 where
  pub neighbours : suc (num / o) < length X
  pub is : v ≡ value o (sample_in X (num / o) c) (sample_in X (suc (num / o)) c) (num % o)
  pub between : Between (sample_in X (num / o) c) (sample_in X (suc (num / o)) c) v
  pub near_line : NearLine o (sample_in X (num / o) c) (sample_in X (suc (num / o)) c) (num % o) v

-- the first frame has samples, as the state's newest, and those after it are frames of ch channels
abbrev pub FramesAfter : ℕ → List Frame → Type 0
FramesAfter ch [] = Unit {0}
FramesAfter ch (x ∷ xs) = Samples x × FramesOf ch xs
