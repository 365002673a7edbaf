-- The lines that the desk program prints of a recipe's notes (document 02, Q-4). Definitions only.
use Rattle.std.specs.Prelude.{cond, List, [], ◌∷◌, ◌++◌, map, ℕ, ◌+◌, ◌/◌, ◌%◌, ltb}
use Rattle.pcm.specs.Frames.{flat}
use Rattle.recipe.specs.Notes.{Note, notes_in}

-- a lower-case hexadecimal digit: 0 to 9 from 0x30 on, a to f from 0x61 on
abbrev pub digit : ℕ → ℕ
digit n = cond (ltb n 10) (0x30 + n) (0x57 + n)

-- two for each byte
abbrev pub hex_of : ℕ → List ℕ
hex_of b = digit (b / 16) ∷ digit (b % 16) ∷ []

-- kind in four lower-case hexadecimal digits, then two for each byte; a line feed ends the line
unfoldable pub line_of : Note → List ℕ
line_of n = hex_of (n.kind / 256) ++ (hex_of (n.kind % 256) ++ (flat (map hex_of n.text) ++ (0x0a ∷ [])))

-- a line for each in order and nothing else
unfoldable pub lines_of : List ℕ → List ℕ
lines_of recipe = flat (map line_of (notes_in recipe))
