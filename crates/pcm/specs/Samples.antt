-- A sample is 16-bit signed, low byte first (document 01, lib.rs). Definitions only.
use Rattle.std.specs.Prelude.{◌≡◌, Bool, cond, ◌||◌, List, [], ◌∷◌, ℕ, ◌+◌, ◌*◌, ◌/◌, ◌%◌, ◌<◌, ℤ, pos, get_or, set}
use Rattle.std.specs.Int.Signed.{lt_z}
use Rattle.std.specs.Int.{w16}
use Rattle.std.proofs.Common.{SFits, to_z, of_z}
use Rattle.pcm.specs.declared.Saturated.{Saturated}
use Rattle.pcm.specs.Integers.{−}

-- a number held within low and high
unfoldable pub held : ℤ → ℤ → ℤ → ℤ
held low high z = cond (lt_z z low) low (cond (lt_z high z) high z)

-- sat16 holds a number within −32,768 to 32,767
abbrev pub held16 : ℤ → ℤ
held16 z = held (− 32768) (pos 32767) z

-- a number outside low to high
unfoldable pub outside : ℤ → ℤ → ℤ → Bool
outside low high z = lt_z z low || lt_z high z

-- sat16 holds such a number back (document 02, Q-2): a sample at exactly the limit is not clipped
abbrev pub outside16 : ℤ → Bool
outside16 z = outside (− 32768) (pos 32767) z

-- the sample, and whether it was held back
abbrev pub saturated : ℤ → Saturated
saturated z = record { sample = held16 z; clipped = outside16 z }

-- the sample that two bytes hold
unfoldable pub sample_of : ℕ → ℕ → ℤ
sample_of lo hi = to_z w16 (lo + 256 * hi)

-- the two bytes of a sample
unfoldable pub low_of : ℤ → ℕ
low_of z = of_z w16 z % 256

unfoldable pub high_of : ℤ → ℕ
high_of z = of_z w16 z / 256

-- bytes to samples; a last byte with no pair is left out
abbrev pub decode : List ℕ → List ℤ
decode [] = []
decode (a ∷ []) = []
decode (a ∷ b ∷ rest) = sample_of a b ∷ decode rest

-- samples to bytes
abbrev pub encode : List ℤ → List ℕ
encode [] = []
encode (z ∷ zs) = low_of z ∷ high_of z ∷ encode zs

-- the sample at the bytes i and i + 1
unfoldable pub sample_at : List ℕ → ℕ → ℤ
sample_at bytes i = sample_of (get_or bytes i 0) (get_or bytes (i + 1) 0)

-- the bytes with the sample z at i and i + 1
unfoldable pub stored : List ℕ → ℕ → ℤ → List ℕ
stored bytes i z = set (set bytes i (low_of z)) (i + 1) (high_of z)

-- each element has P
abbrev pub All : {A : Type 0} → (A → Type 0) → List A → Type 0
All P [] = Unit {0}
All P (x ∷ xs) = P x × All P xs

-- numbers that are bytes
abbrev pub Bytes : List ℕ → Type 0
Bytes bytes = All (λ (b : ℕ). b < 256) bytes

-- samples within 16 bits
abbrev pub Samples : List ℤ → Type 0
Samples zs = All (SFits w16) zs

-- what is answered of each k below n is sample k of zs
abbrev pub Gives : (ℕ → ℤ → Type 0) → ℕ → List ℤ → Type 0
Gives answer n zs = (k : ℕ) (z : ℤ) → k < n → answer k z → z ≡ get_or zs k (pos 0)
