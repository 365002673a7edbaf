-- The operations of binary32 and binary64, each rounded once (IEEE 754). Definitions only.
use Rattle.std.specs.Prelude.{pos, false, Float}
use Rattle.std.specs.Float.{fin, binary32, binary64}
use Rattle.std.specs.Float.Ieee.{add, sub, mul, div}

abbrev pub plus_zero : Float
plus_zero = fin false 0 (pos 0)

infixl 6 ◌+₃₂◌
abbrev pub ◌+₃₂◌ : Float → Float → Float
x +₃₂ y = add binary32 x y

infixl 6 ◌-₃₂◌
abbrev pub ◌-₃₂◌ : Float → Float → Float
x -₃₂ y = sub binary32 x y

infixl 7 ◌*₃₂◌
abbrev pub ◌*₃₂◌ : Float → Float → Float
x *₃₂ y = mul binary32 x y

infixl 7 ◌/₃₂◌
abbrev pub ◌/₃₂◌ : Float → Float → Float
x /₃₂ y = div binary32 x y

infixl 6 ◌+₆₄◌
abbrev pub ◌+₆₄◌ : Float → Float → Float
x +₆₄ y = add binary64 x y

infixl 6 ◌-₆₄◌
abbrev pub ◌-₆₄◌ : Float → Float → Float
x -₆₄ y = sub binary64 x y

infixl 7 ◌*₆₄◌
abbrev pub ◌*₆₄◌ : Float → Float → Float
x *₆₄ y = mul binary64 x y

infixl 7 ◌/₆₄◌
abbrev pub ◌/₆₄◌ : Float → Float → Float
x /₆₄ y = div binary64 x y
