-- The end of a resampler's stream (document 02, Q-1): the output that falls exactly on its last frame. Definitions only.
use Rattle.std.specs.Prelude.{◌≡◌, Bool, true, false, cond, ◌&&◌, List, [], ◌∷◌, ℕ, zero, suc, ◌+◌, ◌-◌, ◌*◌, ◌/◌, ◌%◌, ◌<◌, eqb, leb, ltb, ℤ, length, take}
use Rattle.pcm.specs.Frames.{Frame}
use Rattle.resample.specs.Value.{value, Between, NearLine}
use Rattle.resample.specs.Resample.{newest}
use Rattle.resample.specs.Neighbours.{sample_in}
use Rattle.rates.specs.declared.LinearResampler.{LinearResampler}
use Rattle.rates.specs.declared.ResamplerState.{ResamplerState}

-- ---- the whole stream
-- the output that falls exactly on the last of the T frames X, where (T - 1) * out_r is divisible by in_r: that last frame
unfoldable pub on_last : ℕ → ℕ → List Frame → List Frame
on_last i o [] = []
on_last i o (x ∷ xs) = cond (eqb (length xs * o % i) 0) (newest x xs ∷ []) []

-- what the stage that has received X adds at its end; equal rates add nothing
unfoldable pub whole_last : LinearResampler → List Frame → List Frame
whole_last r X = cond (eqb r.in_rate r.out_rate) [] (on_last r.in_r r.out_r X)

-- the newer neighbour of an output that lies from frame g on: frame g + 1; after the last frame none comes, and it alone stands for both
abbrev pub newer_of : List Frame → ℕ → ℕ
newer_of X g = cond (ltb (suc g) (length X)) (suc g) g

-- v is sample c of the output at num / out_r of the ended stream X
pub record EndedSample (o num : ℕ) (X : List Frame) (c : ℕ) (v : ℤ) : Type 0 where
  pub there : num / o < length X
  pub is : v ≡ value o (sample_in X (num / o) c) (sample_in X (newer_of X (num / o)) c) (num % o)
  pub between : Between (sample_in X (num / o) c) (sample_in X (newer_of X (num / o)) c) v
  pub near_line : NearLine o (sample_in X (num / o) c) (sample_in X (newer_of X (num / o)) c) (num % o) v
  -- an output that lies from the last frame on falls exactly on it, and is that frame
  pub last : suc (num / o) ≡ length X → (num % o ≡ 0) × (v ≡ sample_in X (num / o) c)

-- ---- from a state, in which ch channels are used
-- the frame held, where the next output falls on it
unfoldable pub held_last : ℕ → ResamplerState → List Frame
held_last ch s = cond (s.primed && eqb s.phase 0) (take ch s.last ∷ []) []

unfoldable pub resampler_end : ℕ → LinearResampler → ResamplerState → List Frame
resampler_end ch r s = cond (eqb r.in_rate r.out_rate) [] (held_last ch s)

-- how many of p, p + i, p + 2 * i, .. lie at D or below it: floor((D - p) / i) + 1, or none
abbrev pub up_to : ℕ → ℕ → ℕ → ℕ
up_to i p D = cond (leb p D) ((D - p) / i + 1) 0

-- how many frames n frames and then the end bring, from the phase alone
unfoldable pub end_count : ℕ → ℕ → Bool → ℕ → ℕ → ℕ
end_count i o true phase n = up_to i phase (n * o)
end_count i o false phase zero = 0
end_count i o false phase (suc n) = up_to i 0 (n * o)

unfoldable pub end_frame_count : LinearResampler → Bool → ℕ → ℕ → ℕ
end_frame_count r primed phase n = cond (eqb r.in_rate r.out_rate) n (end_count r.in_r r.out_r primed phase n)
