-- The limits of a format that is allowed. Assumes nothing.
use Rattle.std.specs.Prelude.{◌≡◌, true, ◌*◌, ◌≤◌, ◌<◌, ℕ, leb, ltb}
use Rattle.std.proofs.Common.{arith, mul-le-mul, ltb-true, leb-true}
use Rattle.pcm.specs.declared.PcmFormat.{PcmFormat}
use Rattle.pcm.specs.Formats.{format_allowed, channels_allowed, rate_allowed, frame_bytes}
use Rattle.pcm.specs.laws.Tests.{both}

pub record FormatLimits (f : PcmFormat) : Type 0 where
  pub some : 0 < f.channels
  pub few : f.channels ≤ 2
  pub rate : f.rate ≤ 384000
  pub bytes : f.rate * frame_bytes f ≤ 1536000

pub format_limits : (f : PcmFormat) → format_allowed f ≡ true → FormatLimits f
unfolding format_allowed channels_allowed rate_allowed
format_limits f h =
    let q = both (channels_allowed f.channels) (rate_allowed f.rate) h in
    let c = both (ltb 0 f.channels) (leb f.channels 2) q.0 in
    let r = both (ltb 0 f.rate) (leb f.rate 384000) q.1 in
    let k : f.channels ≤ 2 = leb-true f.channels 2 c.1 in
    let m : f.rate ≤ 384000 = leb-true f.rate 384000 r.1 in
    let n : f.channels * 2 ≤ 4 = omega arith in
    record { some = ltb-true 0 f.channels c.0; few = k; rate = m; bytes = mul-le-mul m n }

-- its frames have bytes
pub frame_some : (f : PcmFormat) (n : ℕ) → n ≡ frame_bytes f → format_allowed f ≡ true → 0 < n
frame_some f n e h = omega (arith, e, (format_limits f h).some)
