-- Numbers in bytes, low byte first (document 01, 'The recipe'). Definitions only.
use Rattle.std.specs.Prelude.{List, [], ◌∷◌, ◌++◌, ℕ, zero, suc, ◌+◌, ◌*◌, ◌/◌, ◌%◌, ◌^◌, ◌<◌, take, drop}
use Rattle.pcm.specs.Samples.{All}

-- the number that bytes hold
abbrev pub word_of : List ℕ → ℕ
word_of [] = 0
word_of (b ∷ bytes) = b + 256 * word_of bytes

-- the n bytes of a number
abbrev pub word_bytes : ℕ → ℕ → List ℕ
word_bytes zero x = []
word_bytes (suc n) x = x % 256 ∷ word_bytes n (x / 256)

-- the number in the n bytes from i on
abbrev pub word_at : ℕ → ℕ → List ℕ → ℕ
word_at n i bytes = word_of (take n (drop i bytes))

-- n numbers of 32 bits, one after another
abbrev pub words : ℕ → List ℕ → List ℕ
words zero bytes = []
words (suc n) bytes = word_at 4 0 bytes ∷ words n (drop 4 bytes)

-- and their bytes
abbrev pub words_bytes : List ℕ → List ℕ
words_bytes [] = []
words_bytes (x ∷ xs) = word_bytes 4 x ++ words_bytes xs

-- numbers of 32 bits
abbrev pub Words : List ℕ → Type 0
Words xs = All (λ (x : ℕ). x < 2 ^ 32) xs
