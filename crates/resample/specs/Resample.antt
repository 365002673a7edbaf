-- The resampler (document 01, resample.rs and 'The whole stream'): the paper's closed form over the whole stream, named whole, and what is carried
-- on from a state. Definitions only.
use Rattle.std.specs.Prelude.{true, cond, List, [], ◌∷◌, ℕ, suc, ◌+◌, ◌-◌, ◌*◌, ◌/◌, ◌%◌, eqb, pos, length, get_or}
use Rattle.pcm.specs.Frames.{Frame}
use Rattle.rates.specs.Counting.{tabulate, ceil_div, count, past}
use Rattle.resample.specs.Value.{value}
use Rattle.rates.specs.declared.LinearResampler.{LinearResampler}
use Rattle.rates.specs.declared.ResamplerState.{ResamplerState}
use Rattle.rates.specs.Rates.{opened_state}

-- ---- one output
-- the frame rem / out_r of the way from the frame a to the frame b: each channel by itself
unfoldable pub blend : ℕ → Frame → Frame → ℕ → Frame
blend o a b rem = tabulate (length b) (λ c. value o (get_or a c (pos 0)) (get_or b c (pos 0)) rem)

-- the output at num / out_r of the frames X: between Xg and Xg+1, with g = floor(num / out_r) and rem = num mod out_r
unfoldable pub output_at : ℕ → List Frame → ℕ → Frame
output_at o X num = blend o (get_or X (num / o) []) (get_or X (suc (num / o)) []) (num % o)

-- ---- the whole stream
-- T - 1, where X are the T frames received; 0 before the first
abbrev pub gaps : List Frame → ℕ
gaps [] = 0
gaps (x ∷ xs) = length xs

-- each output k with k * in_r < (T - 1) * out_r, in order
unfoldable pub whole_outputs : ℕ → ℕ → List Frame → List Frame
whole_outputs i o X = tabulate (ceil_div (gaps X * o) i) (λ k. output_at o X (k * i))

-- the newest of x and xs
abbrev pub newest : Frame → List Frame → Frame
newest x [] = x
newest x (y ∷ ys) = newest y ys

-- a frame in the two places that the state has for one: a mono frame leaves the second at 0
abbrev pub padded : Frame → Frame
padded [] = pos 0 ∷ pos 0 ∷ []
padded (x ∷ []) = x ∷ pos 0 ∷ []
padded (x ∷ y ∷ f) = x ∷ y ∷ f

-- the state with the newest frame f and the phase p
abbrev pub holding : Frame → ℕ → ResamplerState
holding f p = record { last = padded f; phase = p; primed = true }

-- the sound state: the newest frame, and k * in_r - (T - 1) * out_r at the first k not delivered; before the first frame as opened
unfoldable pub whole_sound_state : ℕ → ℕ → List Frame → ResamplerState
whole_sound_state i o [] = opened_state
whole_sound_state i o (x ∷ xs) = holding (newest x xs) (length (whole_outputs i o (x ∷ xs)) * i - length xs * o)

-- ---- from a state, on the frames xs that follow
-- the frames that the outputs lie among: the state's newest, if there is one, and those that follow
unfoldable pub among : ResamplerState → List Frame → List Frame
among s xs = cond s.primed (s.last ∷ xs) xs

-- where among them the first output lies, in out_r-ths of a frame
unfoldable pub first_at : ResamplerState → ℕ
first_at s = cond s.primed s.phase 0

-- from p on in steps of in_r, each output that lies before the newest of X
unfoldable pub outputs_from : ℕ → ℕ → ℕ → List Frame → List Frame
outputs_from i o p X = tabulate (count i p (gaps X * o)) (λ j. output_at o X (p + j * i))

-- what the frames xs bring from the state s, and the state after them
unfoldable pub carried_outputs : ℕ → ℕ → ResamplerState → List Frame → List Frame
carried_outputs i o s xs = outputs_from i o (first_at s) (among s xs)

unfoldable pub carried_state : ℕ → ℕ → ResamplerState → List Frame → ResamplerState
carried_state i o s [] = s
carried_state i o s (x ∷ xs) = holding (newest x xs) (past i (first_at s) (gaps (among s (x ∷ xs)) * o))

-- ---- the stage: equal rates copy and keep no state
unfoldable pub resampled : LinearResampler → ResamplerState → List Frame → List Frame
resampled r s xs = cond (eqb r.in_rate r.out_rate) xs (carried_outputs r.in_r r.out_r s xs)

unfoldable pub state_after : LinearResampler → ResamplerState → List Frame → ResamplerState
state_after r s xs = cond (eqb r.in_rate r.out_rate) s (carried_state r.in_r r.out_r s xs)

-- what the stage makes of the whole stream X, and its sound state then
unfoldable pub resampled_whole : LinearResampler → List Frame → List Frame
resampled_whole r X = cond (eqb r.in_rate r.out_rate) X (whole_outputs r.in_r r.out_r X)

unfoldable pub state_whole : LinearResampler → List Frame → ResamplerState
state_whole r X = cond (eqb r.in_rate r.out_rate) opened_state (whole_sound_state r.in_r r.out_r X)
