-- What a resampler of unequal rates has received and delivered, in any place of a chain (document 01, 'The whole stream'; document 02, Q-1). Definitions only.
use Rattle.std.specs.Prelude.{◌≡◌, ◌↔◌, List, [], ℕ, ◌+◌, ◌-◌, ◌*◌, ◌/◌, ◌≤◌, ◌<◌, length, get_or}
use Rattle.pcm.specs.Frames.{Frame}
use Rattle.rates.specs.declared.LinearResampler.{LinearResampler}
use Rattle.rates.specs.Counting.{ceil_div}
use Rattle.resample.specs.Resample.{state_whole}
use Rattle.rates.specs.Rates.{reduced}
use Rattle.resample.specs.Neighbours.{DeliveredSample, sample_in}
use Rattle.ending.specs.ResamplerEnd.{EndedSample}

-- a resampler r of unequal rates that has received the T frames X and delivered the frames Y
pub record Resampled (r : LinearResampler) (X Y : List Frame) : Type 0 where
  -- in_r and out_r are the rates divided by their greatest common divisor
  pub rates : r ≡ reduced r.in_rate r.out_rate
  -- nothing of nothing, and else ceil((T - 1) * out / in) frames
  pub none : X ≡ [] → Y ≡ []
  pub many : 0 < length X → length Y ≡ ceil_div ((length X - 1) * r.out_rate) r.in_rate
  -- each output k with k * in_r < (T - 1) * out_r, and no other
  pub exactly : (k : ℕ) → (k < length Y) ↔ (k * r.in_r < (length X - 1) * r.out_r)
  -- sample c of output k is the paper's value, between its two neighbours, and within the bound of the line
  pub samples : (k c : ℕ) → k < length Y → c < length (get_or Y k []) → DeliveredSample r.out_r (k * r.in_r) X c (sample_in Y k c)
  -- the phase stands for k * in_r - (T - 1) * out_r at the first k not delivered
  pub phase : 0 < length X → (state_whole r X).phase + (length X - 1) * r.out_r ≡ length Y * r.in_r

-- the same once it has ended
pub record ResampledToEnd (r : LinearResampler) (X Y : List Frame) : Type 0 where
  pub rates : r ≡ reduced r.in_rate r.out_rate
  -- nothing of nothing, and else floor((T - 1) * out / in) + 1 frames
  pub none : X ≡ [] → Y ≡ []
  pub many : 0 < length X → length Y ≡ (length X - 1) * r.out_rate / r.in_rate + 1
  -- each output k with k * in_r <= (T - 1) * out_r, and no other
  pub exactly : 0 < length X → (k : ℕ) → (k < length Y) ↔ (k * r.in_r ≤ (length X - 1) * r.out_r)
  -- sample c of output k, the last included, is the paper's value, between its two neighbours, and within the bound of the line;
  -- at the last the last frame alone stands for both neighbours and the line
  pub samples : (k c : ℕ) → k < length Y → c < length (get_or Y k []) → EndedSample r.out_r (k * r.in_r) X c (sample_in Y k c)
