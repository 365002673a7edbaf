-- The samples that a gain holds back (document 02, Q-2). Definitions only.
use Rattle.std.specs.Prelude.{Bool, List, ℕ, ℤ, pos, ◌+ℤ◌, ◌*ℤ◌}
use Rattle.pcm.specs.Integers.{floor_div}
use Rattle.pcm.specs.Samples.{outside16}
use Rattle.counting.specs.Counting.{count_of}

-- a sample x whose floor((x * q15 + 16,384) / 32,768) lies outside the sample range; at exactly the limit it is not held back
unfoldable pub clipped_by : ℤ → ℤ → Bool
clipped_by q15 x = outside16 (floor_div (x *ℤ q15 +ℤ pos 16384) 32768)

-- how many of the samples are
unfoldable pub clipped_in : ℤ → List ℤ → ℕ
clipped_in q15 samples = count_of (clipped_by q15) samples
