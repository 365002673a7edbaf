-- gain.rs: a Q15 factor, and a sample times it (document 01). Assumes nothing.
use Rattle.std.specs.Prelude.{◌≡◌, Bool, false, List, map, ℕ, ◌%◌, ◌≤◌, leb, length, ℤ, pos, nat_abs, ◌+ℤ◌, ◌*ℤ◌, Float}
use Rattle.std.specs.Float.{fin, binary32}
use Rattle.std.specs.Float.Ieee.{mul}
use Rattle.pcm.specs.Integers.{−, floor_div}
use Rattle.pcm.specs.Samples.{held, held16, decode, encode}
use Rattle.floats.specs.Rounding.{round_sat}
use Rattle.gain.specs.declared.Gain.{Gain}

-- is a factor within ±33,554,432?
abbrev pub factor_allowed : ℤ → Bool
factor_allowed q15 = leb (nat_abs q15) 33554432

-- from_q15 holds the factor within ±33,554,432
unfoldable pub held_factor : ℤ → ℤ
held_factor q15 = held (− 33554432) (pos 33554432) q15

-- linear multiplies by 32,768 and rounds to nearest, halves away, then holds alike; NaN gives 0
unfoldable pub linear_factor : Float → ℤ
linear_factor factor = round_sat 33554432 33554432 (mul binary32 factor (fin false 1 (pos 15)))

abbrev pub unity : Gain
unity = record { q15 = pos 32768 }

-- a sample x becomes floor((x * q15 + 16,384) / 32,768), held to the sample range
unfoldable pub scaled : ℤ → ℤ → ℤ
scaled q15 x = held16 (floor_div (x *ℤ q15 +ℤ pos 16384) 32768)

-- the same of each sample of a block
unfoldable pub scaled_bytes : ℤ → List ℕ → List ℕ
scaled_bytes q15 bytes = encode (map (scaled q15) (decode bytes))

-- what a call on a block takes: whole samples, room, and a factor within its limit
pub record GainBlock (q15 : ℤ) (input out : List ℕ) : Type 0 where
  pub whole : length input % 2 ≡ 0
  pub room : length input ≤ length out
  pub factor : nat_abs q15 ≤ 33554432
