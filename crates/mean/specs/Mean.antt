-- The mean of two samples (document 02, Q-6; document 01, channels.rs). Definitions only.
use Rattle.std.specs.Prelude.{ℤ, ◌+ℤ◌}
use Rattle.pcm.specs.Integers.{nearest_div}

-- stereo to mono is the nearest whole number to (l + r) / 2, an exact half to the even one
unfoldable pub mean : ℤ → ℤ → ℤ
mean l r = nearest_div (l +ℤ r) 2
