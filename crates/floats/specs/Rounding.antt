-- Rounding to whole numbers, exact halves away from zero (document 01, lib.rs). Definitions only.
use Rattle.std.specs.Prelude.{ℕ, ◌+◌, ◌*◌, ◌/◌, ◌%◌, ◌^◌, min, Bool, true, false, cond, leb, ℤ, pos, neg_ℤ, Float}
use Rattle.std.specs.Float.{nan, inf, fin}
use Rattle.std.specs.Float.Ieee.{up, down, lt}
use Rattle.pcm.specs.declared.Saturated.{Saturated}
use Rattle.pcm.specs.Integers.{−}
use Rattle.pcm.specs.Samples.{outside16}

-- n / d to the nearest whole number, a half up: the whole part, and one more where what is left is a half or more
unfoldable pub half_up : ℕ → ℕ → ℕ
half_up n d = n / d + cond (leb d (n % d * 2)) 1 0

-- x to the nearest whole number, exact halves away from zero, held within -low and high; NaN gives 0.
-- A finite float is m * 2 ^ e, as the fraction m * up e / down e, with its sign
unfoldable pub round_sat : ℕ → ℕ → Float → ℤ
round_sat low high nan = pos 0
round_sat low high (inf s) = cond s (neg_ℤ (pos low)) (pos high)
round_sat low high (fin s m e) = cond s (neg_ℤ (pos (min (half_up (m * up e) (down e)) low))) (pos (min (half_up (m * up e) (down e)) high))

-- round_sat16's rule: held within the sample range
abbrev pub rounded16 : Float → ℤ
rounded16 x = round_sat 32768 32767 x

-- whether it holds the sample back (document 02, Q-2): the nearest whole number, exact halves away from zero, lies outside -32,768 to 32,767.
-- A sample at exactly the limit is not clipped; NaN is, and so is an infinity
unfoldable pub clipped : Float → Bool
clipped nan = true
clipped (inf s) = true
clipped (fin s m e) = outside16 (cond s (neg_ℤ (pos (half_up (m * up e) (down e)))) (pos (half_up (m * up e) (down e))))

-- the sample, and whether it was held back
abbrev pub rounded_sample : Float → Saturated
rounded_sample x = record { sample = rounded16 x; clipped = clipped x }

-- the magnitude alone, to the nearest whole number; an infinity's is past every limit that is asked for here
unfoldable pub magnitude : Float → ℕ
magnitude nan = 0
magnitude (inf s) = 2 ^ 64
magnitude (fin s m e) = half_up (m * up e) (down e)

-- a float held within limits, a NaN as it is
abbrev pub at_least : Float → Float → Float
at_least low x = cond (lt x low) low x

abbrev pub at_most : Float → Float → Float
at_most high x = cond (lt high x) high x

-- held to the least and the greatest binary32 that round to a sample: -32,768.49609375 = -8,388,735 / 2^8 and
-- 32,767.498046875 = 16,776,959 / 2^9
unfoldable pub held_float : Float → Float
held_float x = at_most (fin false 16776959 (− 9)) (at_least (fin true 8388735 (− 8)) x)
