-- Patterns of floats, and narrowing to binary32 (document 01, biquad.rs). Definitions only.
use Rattle.std.specs.Prelude.{ℕ, ◌*◌, Float}
use Rattle.std.specs.Float.{nan, inf, fin, binary32}
use Rattle.std.specs.Float.Ieee.{to_bits, up, down, round}

-- the pattern that is written for a float: a NaN's is 0x7FC00000
unfoldable pub pattern_of : Float → ℕ
pattern_of nan = 0x7fc0_0000
pattern_of (inf s) = to_bits binary32 (inf s)
pattern_of (fin s m e) = to_bits binary32 (fin s m e)

-- to binary32: to nearest, ties to even
unfoldable pub narrowed : Float → Float
narrowed nan = nan
narrowed (inf s) = inf s
narrowed (fin s m e) = round binary32 s (m * up e) (down e)
