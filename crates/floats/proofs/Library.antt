-- Patterns, narrowing and holding in the library's words. Assumes nothing.
use mathlib.Core.Path.{◌≡◌, refl}
use mathlib.Core.Bool.{Bool, true, false, cond}
use lib.IntN.{negsuc}
use lib.Ieee.{Float, nan, inf, fin, binary32, to_bits, lt}
use Rattle.std.specs.Float.{round_to_format, float_clamp}
use Rattle.floats.specs.Floats.{pattern_of, narrowed}
use Rattle.floats.specs.Rounding.{held_float}

pub pattern_is : (x : Float) → pattern_of x ≡ to_bits binary32 x
unfolding pattern_of to_bits
pattern_is nan = refl
pattern_is (inf s) = refl
pattern_is (fin s m e) = refl

pub narrowed_is : (x : Float) → narrowed x ≡ round_to_format binary32 x
unfolding narrowed round_to_format
narrowed_is nan = refl
narrowed_is (inf s) = refl
narrowed_is (fin s m e) = refl

abbrev lowest : Float
lowest = fin true 8388735 (negsuc 7)

abbrev highest : Float
highest = fin false 16776959 (negsuc 8)

pub held_is : (x : Float) → held_float x ≡ float_clamp x lowest highest
unfolding held_float lt
held_is x = go (lt x lowest)
  where
    go : (b : Bool) → cond (lt highest (cond b lowest x)) highest (cond b lowest x) ≡ cond b lowest (cond (lt highest x) highest x)
    go true = refl
    go false = refl
