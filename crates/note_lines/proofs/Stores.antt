-- Digits, stored one after another. Assumes nothing.
use mathlib.Core.Path.{◌≡◌, sym, ap, ◌∙◌}
use mathlib.Core.Bool.{true}
use mathlib.Core.List.{List, [], ◌∷◌, ◌++◌, map}
use Prim.Native.Nat.{ℕ, ◌+◌, ◌*◌, ◌/◌, ◌%◌, ◌<◌}
use native.Mathlib.Numerals.{add-one}
use native.Mathlib.Omega.{arith}
use lib.ListN.{length, take, get_or, set}
use lib.Seq.{sets, take-suc, length-take-le}
use Rattle.std.specs.Int.{w16, to_be_bytes}
use Rattle.pcm.specs.Frames.{flat}
use Rattle.pcm.specs.laws.Frames.{flat_append, map_append}
use Rattle.recipe.specs.Records.{of_note}
use Rattle.words.specs.laws.Runs.{sets_append}
use Rattle.note_lines.specs.Lines.{hex_of, line_of}
use Rattle.note_lines.specs.laws.Lines.{length_hex, length_line, line_if}

abbrev pub hex_text : List ℕ → List ℕ
hex_text text = flat (map hex_of text)

-- one byte more
hex_next : (text : List ℕ) (i : ℕ) → i < length text → hex_text (take (i + 1) text) ≡ hex_text (take i text) ++ hex_of (get_or text i 0)
hex_next text i h =
    ap (λ (n : ℕ). hex_text (take n text)) (add-one i) ∙ ap hex_text (take-suc text i 0 h) ∙ ap flat (map_append hex_of (take i text) (get_or text i 0 ∷ []))
    ∙ flat_append (map hex_of (take i text)) (hex_of (get_or text i 0) ∷ [])

pub text_next : (text out : List ℕ) (to i : ℕ) → i < length text
    → sets (sets out to (hex_text (take i text))) (to + 2 * i) (hex_of (get_or text i 0)) ≡ sets out to (hex_text (take (i + 1) text))
text_next text out to i h =
    let n : length (hex_text (take i text)) ≡ 2 * i = omega (arith, length_hex (take i text), length-take-le i text (omega arith)) in
    ap (λ (k : ℕ). sets (sets out to (hex_text (take i text))) (to + k) (hex_of (get_or text i 0))) (sym n)
    ∙ sym (sets_append (hex_text (take i text)) (hex_of (get_or text i 0)) out to) ∙ ap (sets out to) (sym (hex_next text i h))

-- the parts of a line
pub line_stored : (kind : ℕ) (text out : List ℕ) (to : ℕ) → kind < 65536
    → set (sets (sets out to (hex_text (to_be_bytes w16 kind))) (to + 4) (hex_text text)) (to + 4 + 2 * length text) 0x0a
    ≡ sets out to (line_of (record { kind = kind; text = text }))
unfolding line_of
line_stored kind text out to h =
    let a = hex_text (to_be_bytes w16 kind) in
    let high : kind / 256 % 256 ≡ kind / 256 = omega arith in
    let l : 2 * length text ≡ length (hex_text text) = sym (length_hex text) in
    ap (λ (n : ℕ). sets (sets (sets out to a) (to + 4) (hex_text text)) (to + 4 + n) (0x0a ∷ [])) l
    ∙ sym (sets_append (hex_text text) (0x0a ∷ []) (sets out to a) (to + 4))
    ∙ sym (sets_append a (hex_text text ++ (0x0a ∷ [])) out to)
    ∙ rw high

pub note_line_size : (kind : ℕ) (text : List ℕ) → true ≡ of_note kind → length (line_if kind text) ≡ 5 + 2 * length text
note_line_size kind text h = rw (sym h) (length_line (record { kind = kind; text = text }))
