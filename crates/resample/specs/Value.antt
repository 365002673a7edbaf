-- The value between two samples, and what it is held to: its neighbours and the line (document 01, resample.rs and 'The whole stream').
-- Assumes nothing.
use Rattle.std.specs.Prelude.{◌⊎◌, ℕ, ◌+◌, ◌*◌, ◌/◌, ◌^◌, ◌≤◌, ℤ, pos, nat_abs, ◌+ℤ◌, ◌-ℤ◌, ◌*ℤ◌, ◌≤ℤ◌}
use Rattle.pcm.specs.Integers.{floor_div}

-- frac = floor(rem * 2^32 / out_r)
abbrev pub frac : ℕ → ℕ → ℕ
frac o rem = rem * 2 ^ 32 / o

-- f / 2^32 of the way from a to b: a + floor(((b - a) * f + 2^31) / 2^32)
unfoldable pub interpolated : ℤ → ℤ → ℕ → ℤ
interpolated a b f = a +ℤ floor_div ((b -ℤ a) *ℤ pos f +ℤ pos (2 ^ 31)) (2 ^ 32)

-- rem / out_r of the way from a to b
abbrev pub value : ℕ → ℤ → ℤ → ℕ → ℤ
value o a b rem = interpolated a b (frac o rem)

-- v lies between a and b, whichever is the lower
pub record Ordered (low v high : ℤ) : Type 0 where
  pub below : low ≤ℤ v
  pub above : v ≤ℤ high

abbrev pub Between : ℤ → ℤ → ℤ → Type 0
Between a b v = Ordered a v b ⊎ Ordered b v a

-- out_r times the line from a to b, rem / out_r of the way: a * out_r + (b - a) * rem
abbrev pub line : ℕ → ℤ → ℤ → ℕ → ℤ
line o a b rem = a *ℤ pos o +ℤ (b -ℤ a) *ℤ pos rem

-- the distance of v from the line, times out_r * 2^32
abbrev pub distance : ℕ → ℤ → ℤ → ℕ → ℤ → ℕ
distance o a b rem v = nat_abs (v *ℤ pos o -ℤ line o a b rem) * 2 ^ 32

-- its bound, 1/2 + 65,535/2^32, times out_r * 2^32
abbrev pub bound : ℕ → ℕ
bound o = o * (2 ^ 31 + 65535)

abbrev pub NearLine : ℕ → ℤ → ℤ → ℕ → ℤ → Type 0
NearLine o a b rem v = distance o a b rem v ≤ bound o
