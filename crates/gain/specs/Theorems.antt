-- What the definitions come to: the chief theorems of this crate. Assumes nothing.
use Rattle.std.specs.Prelude.{◌≡◌, List, ℕ, ◌%◌, ℤ, pos, length}
use Rattle.std.proofs.Common.{ap, ◌∙◌}
use Rattle.pcm.specs.Samples.{Bytes, Samples, decode, encode}
use Rattle.pcm.specs.laws.Samples.{decode_fits, encode-decode}
use Rattle.gain.specs.Clipping.{clipped_in}
use Rattle.gain.specs.Gain.{scaled_bytes}
use Rattle.gain.specs.laws.Clipping.{clipped_none, unity_clipped}
use Rattle.gain.specs.laws.Gain.{unity_samples}

pub unity_bytes : (bytes : List ℕ) → length bytes % 2 ≡ 0 → Bytes bytes → scaled_bytes (pos 32768) bytes ≡ bytes
unfolding scaled_bytes
unity_bytes bytes e b = ap encode (unity_samples (decode bytes) (decode_fits bytes b)) ∙ encode-decode bytes e b

pub unity_clips_nothing : (xs : List ℤ) → Samples xs → clipped_in (pos 32768) xs ≡ 0
unity_clips_nothing xs f = clipped_none (pos 32768) unity_clipped xs f
