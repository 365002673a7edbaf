-- The biquad's recurrence (document 01, biquad.rs): each operation rounded once in binary32, left to right. Definitions only.
use Rattle.std.specs.Prelude.{ℤ, Float}
use Rattle.std.specs.Float.{binary32}
use Rattle.std.specs.Float.Ieee.{of_int, of_bits}
use Rattle.floats.specs.Floats.{pattern_of}
use Rattle.floats.specs.Operations.{◌+₃₂◌, ◌-₃₂◌, ◌*₃₂◌}
use Rattle.filters.specs.declared.Taps.{Taps}
use Rattle.cookbook.specs.declared.Coefficients.{Coefficients}
use Rattle.biquad.specs.declared.CoefficientBits.{CoefficientBits}

-- (((b0 * x + b1 * x1) + b2 * x2) - a1 * y1) - a2 * y2
abbrev pub recurrence : Coefficients → Float → Float → Float → Float → Float → Float
recurrence k x x1 x2 y1 y2 = (((k.b0 *₃₂ x +₃₂ k.b1 *₃₂ x1) +₃₂ k.b2 *₃₂ x2) -₃₂ k.a1 *₃₂ y1) -₃₂ k.a2 *₃₂ y2

-- a channel after the sample x: x2 takes x1, x1 takes x, y2 takes y1, y1 takes y
unfoldable pub biquad_tick : Coefficients → Taps → ℤ → Taps
biquad_tick k t x = record { x1 = of_int binary32 x; x2 = t.x1; y1 = recurrence k (of_int binary32 x) t.x1 t.x2 t.y1 t.y2; y2 = t.y1 }

-- the floats of five patterns, and the patterns of five floats
abbrev pub floats : CoefficientBits → Coefficients
floats n = record { b0 = of_bits binary32 n.b0; b1 = of_bits binary32 n.b1; b2 = of_bits binary32 n.b2; a1 = of_bits binary32 n.a1; a2 = of_bits binary32 n.a2 }

abbrev pub patterns : Coefficients → CoefficientBits
patterns k = record { b0 = pattern_of k.b0; b1 = pattern_of k.b1; b2 = pattern_of k.b2; a1 = pattern_of k.a1; a2 = pattern_of k.a2 }
