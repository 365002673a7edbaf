-- A block of bytes through the stage, over the channel count: what a call needs and what it promises. Assumes nothing.
use Rattle.std.specs.Prelude.{◌≡◌, List, ℕ, suc, ◌+◌, ◌*◌, ◌%◌, ◌≤◌, ◌<◌, length}
use Rattle.pcm.specs.Formats.{OneOrTwo}
use Rattle.pcm.specs.Frames.{Frame, bytes_of, written}
use Rattle.rates.specs.Counting.{tabulate}
use Rattle.resample.specs.Value.{interpolated}
use Rattle.resample.specs.Neighbours.{sample_in}
use Rattle.resample.specs.Place.{At}
use Rattle.resample.specs.declared.Delivered.{Delivered}
use Rattle.rates.specs.declared.ResamplerState.{ResamplerState}
use Rattle.resample.specs.declared.Resampled.{Resampled}

-- whole frames of one or two channels, at least one, rates of 1 to 384,000, and room for the frames fs
pub record Ready (ch i o : ℕ) (fs : List Frame) (input out : List ℕ) : Type 0 where
  pub channels : OneOrTwo ch
  pub in_r : (0 < i) × (i ≤ 384000)
  pub out_r : (0 < o) × (o ≤ 384000)
  pub some : 0 < length input
  pub whole : length input % (ch * 2) ≡ 0
  pub room : length fs * (ch * 2) ≤ length out

-- the frames fs stand at the front of `out`, which is as it was past them, and the state is t
pub record Processed (fs : List Frame) (t : ResamplerState) (out₀ out : List ℕ) (r : Resampled) : Type 0 where
  pub frames_are : r.frames ≡ length fs
  pub bytes_are : out ≡ written (bytes_of fs) out₀
  pub state_is : r.state ≡ t

-- the same of the loop, which begins at num / out_r and goes on in steps of in_r / out_r
pub record Looped (i o num : ℕ) (fs : List Frame) (out₀ out : List ℕ) (d : Delivered) : Type 0 where
  pub frames_are : d.frames ≡ length fs
  pub bytes_are : out ≡ written (bytes_of fs) out₀
  pub place : At o (num + d.frames * i) d.at

-- whole frames of one or two channels
pub record Whole (ch : ℕ) (input : List ℕ) : Type 0 where
  pub channels : OneOrTwo ch
  pub whole : length input % (ch * 2) ≡ 0

-- the frame f / 2^32 of the way from frame g of X to the one after it
abbrev pub frame_between : ℕ → List Frame → ℕ → ℕ → Frame
frame_between ch X g f = tabulate ch (λ c. interpolated (sample_in X g c) (sample_in X (suc g) c) f)
