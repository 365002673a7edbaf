-- Notes inside a recipe (document 02, Q-4). Definitions only.
use Rattle.std.specs.Prelude.{cond, List, [], ◌∷◌, map, ℕ, ◌-◌, take, drop}
use Rattle.pcm.specs.Frames.{flat}
use Rattle.recipe.specs.Records.{of_note, length_at, kind_at, records, record_here}

-- a note: its kind, and its bytes
pub record Note : Type 0 where
  pub kind : ℕ
  pub text : List ℕ

abbrev pub note_at : List ℕ → Note
note_at left = record { kind = kind_at left; text = take (length_at left - 2) (drop 4 left) }

-- the notes of a recipe, in order
abbrev pub note_here : List ℕ → List Note
note_here left = cond (of_note (kind_at left)) (note_at left ∷ []) []

unfoldable pub notes_in : List ℕ → List Note
notes_in bytes = flat (map note_here (records bytes))

-- a recipe with its notes taken out: the bytes of each record that is none
abbrev pub stage_here : List ℕ → List ℕ
stage_here left = cond (of_note (kind_at left)) [] (record_here left)

unfoldable pub without_notes : List ℕ → List ℕ
without_notes bytes = flat (map stage_here (records bytes))
