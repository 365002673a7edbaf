-- The DC block (document 01, dc_block.rs): each operation rounded once in binary32, in the order written. Definitions only.
use Rattle.pcm.specs.declared.Error.{Error}
use Rattle.std.specs.Prelude.{cond, ℕ, ℤ, pos, Float, Ok, Err, Result}
use Rattle.std.specs.Float.{binary32}
use Rattle.std.specs.Float.Ieee.{of_int, of_bits}
use Rattle.pcm.specs.declared.Error.TheVariants.{InvalidFormat}
use Rattle.pcm.specs.Formats.{rate_allowed}
use Rattle.pcm.specs.Refusals.{refusal, ask, number_of, if_accepted, Verdict}
use Rattle.floats.specs.Operations.{plus_zero, ◌+₃₂◌, ◌-₃₂◌, ◌*₃₂◌, ◌/₃₂◌}
use Rattle.filters.specs.declared.Taps.{Taps}
use Rattle.dc_block.specs.declared.DcBlock.{DcBlock}
use Rattle.dc_block.specs.declared.PoleTold.{PoleTold}

-- (x - x1) + r * y1
abbrev pub blocked : Float → Float → Float → Float → Float
blocked r x x1 y1 = (x -₃₂ x1) +₃₂ r *₃₂ y1

-- a channel after the sample x: x1 takes x, y1 takes y; x2 and y2 are no part of this filter's sound state
unfoldable pub dc_tick : Float → Taps → ℤ → Taps
dc_tick r t x = record { x1 = of_int binary32 x; x2 = t.x2; y1 = blocked r (of_int binary32 x) t.x1 t.y1; y2 = t.y2 }

-- 2π as a binary32
abbrev pub tau : Float
tau = of_bits binary32 0x40c9_0fdb

-- 1 - (TAU * corner) / rate
unfoldable pub pole_of : Float → ℕ → Float
pole_of corner rate = of_int binary32 (pos 1) -₃₂ (tau *₃₂ corner) /₃₂ of_int binary32 (pos rate)

-- is the rate within its limit? else 1
unfoldable pub pole_verdict : ℕ → Verdict
pole_verdict rate = ask (rate_allowed rate) InvalidFormat (Ok tt)

unfoldable pub pole_answer : Float → ℕ → Result Float Error
pole_answer corner rate = cond (rate_allowed rate) (Ok (pole_of corner rate)) (Err InvalidFormat)

-- the number and the pole that each answer tells: 0 and the pole, or the refusal's number and 0
abbrev pub pole_told : (Result Float Error) → PoleTold
pole_told (Ok r) = record { number = 0; pole = r }
pole_told (Err e) = record { number = (refusal e).number; pole = plus_zero }

-- the same by the question
abbrev pub pole_valued : Verdict → Float → PoleTold
pole_valued v r = record { number = number_of v; pole = if_accepted v r plus_zero }

-- a filter of this corner before a rate is known
abbrev pub untuned : ℕ → DcBlock
untuned corner = record { corner = corner; r = plus_zero }
