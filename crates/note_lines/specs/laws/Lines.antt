-- Laws of the definitions in Lines: the lines, record by record. Assumes nothing.
use Rattle.std.specs.Prelude.{◌≡◌, refl, Bool, true, false, cond, List, [], ◌∷◌, ◌++◌, map, ℕ, ◌+◌, ◌-◌, ◌*◌, ◌≤◌, length, drop}
use Rattle.std.proofs.Common.{ap, ap₂, ◌∙◌, append-nil, arith, length-append, length-drop, length-take-le}
use Rattle.pcm.specs.Frames.{flat}
use Rattle.pcm.specs.laws.Frames.{flat_append, map_append}
use Rattle.recipe.specs.Records.{of_note, length_at, kind_at, records, record_here, Whole, WholeRecords}
use Rattle.recipe.specs.Notes.{Note, note_at, note_here, notes_in}
use Rattle.recipe.specs.laws.Records.{whole_record}
use Rattle.recipe.specs.laws.Notes.{records_joined}
use Rattle.note_lines.specs.Lines.{hex_of, line_of, lines_of}

-- the line of a record of this kind, if it is a note
abbrev pub line_if : ℕ → List ℕ → List ℕ
line_if kind text = cond (of_note kind) (line_of (record { kind = kind; text = text })) []

abbrev pub line_here : List ℕ → List ℕ
line_here left = line_if (kind_at left) (note_at left).text

-- the lines of records
unfoldable pub record_lines : List (List ℕ) → List ℕ
record_lines rs = flat (map line_here rs)

one_line : (t : Bool) (n : Note) → flat (map line_of (cond t (n ∷ []) [])) ≡ cond t (line_of n) []
one_line true n = append-nil (line_of n)
one_line false n = refl

lines_of_records : (rs : List (List ℕ)) → flat (map line_of (flat (map note_here rs))) ≡ flat (map line_here rs)
lines_of_records [] = refl
lines_of_records (left ∷ rs) =
    ap flat (map_append line_of (note_here left) (flat (map note_here rs)))
    ∙ flat_append (map line_of (note_here left)) (map line_of (flat (map note_here rs)))
    ∙ ap₂ (λ (a b : List ℕ). a ++ b) (one_line (of_note (kind_at left)) (note_at left)) (lines_of_records rs)

pub lines_are : (bytes : List ℕ) → lines_of bytes ≡ record_lines (records bytes)
unfolding lines_of record_lines notes_in
lines_are bytes = lines_of_records (records bytes)

pub lines_none : record_lines [] ≡ []
unfolding record_lines
lines_none = refl

pub lines_next : (left : List ℕ) (later : List (List ℕ)) → record_lines (left ∷ later) ≡ line_here left ++ record_lines later
unfolding record_lines
lines_next left later = refl

-- ---- lengths
pub length_hex : (bytes : List ℕ) → length (flat (map hex_of bytes)) ≡ 2 * length bytes
length_hex [] = refl
length_hex (b ∷ bytes) = omega (arith, length_hex bytes)

pub length_line : (n : Note) → length (line_of n) ≡ 5 + 2 * length n.text
unfolding line_of
length_line n = omega (arith, length_hex n.text, length-append (flat (map hex_of n.text)) (0x0a ∷ []))

-- of a record that is whole
module _ (left : List ℕ) (w : Whole left) where
  pub length_text : length (note_at left).text ≡ length_at left - 2
  length_text = length-take-le (length_at left - 2) (drop 4 left) (omega (arith, length-drop 4 left, w.there, w.two))

  pub line_size : length (line_here left) ≡ cond (of_note (kind_at left)) (1 + 2 * length_at left) 0
  line_size = by_kind (of_note (kind_at left))
    where
      by_kind : (t : Bool) → length (cond t (line_of (note_at left)) []) ≡ cond t (1 + 2 * length_at left) 0
      by_kind true = omega (arith, length_line (note_at left), length_text, w.two)
      by_kind false = refl

  line_short : length (line_here left) ≤ 2 * length (record_here left)
  line_short = by_kind (of_note (kind_at left)) line_size
    where
      by_kind : (t : Bool) → length (line_here left) ≡ cond t (1 + 2 * length_at left) 0 → length (line_here left) ≤ 2 * length (record_here left)
      by_kind true e = omega (arith, e, length-take-le (2 + length_at left) left w.there)
      by_kind false e = omega (arith, e)

lines_short : (rs : List (List ℕ)) → WholeRecords rs → length (flat (map line_here rs)) ≤ 2 * length (flat (map record_here rs))
lines_short [] h = omega arith
lines_short (left ∷ rs) h =
    omega (arith, lines_short rs h.1, line_short left (whole_record left h.0), length-append (line_here left) (flat (map line_here rs)), length-append (record_here left) (flat (map record_here rs)))

-- twice the recipe's bytes are room enough
pub lines_fit : (bytes : List ℕ) → WholeRecords (records bytes) → length (lines_of bytes) ≤ 2 * length bytes
unfolding record_lines
lines_fit bytes h = omega (arith, ap length (lines_are bytes), lines_short (records bytes) h, ap length (records_joined 0 bytes))
