-- Whole numbers: numbers below zero, and quotients rounded down and to the nearest. Definitions only.
use Rattle.std.specs.Prelude.{ℕ, suc, ℤ, pos, negsuc, neg_ℤ}
use Rattle.std.specs.Float.Ieee.Nearest.{closest}
use Rattle.std.specs.Int.Signed.{shr_z}

-- a number below zero, as in − 75
abbrev pub − : ℕ → ℤ
− n = neg_ℤ (pos n)

-- floor(z / n)
abbrev pub floor_div : ℤ → ℕ → ℤ
floor_div z n = shr_z z n

-- the nearest whole number to z / n, an exact half to the even one
unfoldable pub nearest_div : ℤ → ℕ → ℤ
nearest_div (pos a) n = pos (closest a n)
nearest_div (negsuc a) n = − (closest (suc a) n)
