-- Formats and their limits (document 01, 'Domain'). Definitions only.
use Rattle.std.specs.Prelude.{ℕ, ◌*◌, ◌≤◌, ◌<◌, Bool, ◌&&◌, leb, ltb}
use Rattle.pcm.specs.declared.PcmFormat.{PcmFormat}

-- rates 1 to 384,000
unfoldable pub rate_allowed : ℕ → Bool
rate_allowed rate = ltb 0 rate && leb rate 384000

-- 1 or 2 channels
unfoldable pub channels_allowed : ℕ → Bool
channels_allowed channels = ltb 0 channels && leb channels 2

-- the same as a fact
abbrev pub OneOrTwo : ℕ → Type 0
OneOrTwo channels = (0 < channels) × (channels ≤ 2)

-- is the rate 1 to 384,000 and the channel count 1 or 2?
unfoldable pub format_allowed : PcmFormat → Bool
format_allowed f = channels_allowed f.channels && rate_allowed f.rate

-- a frame has a sample of two bytes for each channel
abbrev pub frame_bytes : PcmFormat → ℕ
frame_bytes f = f.channels * 2
