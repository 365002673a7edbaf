-- A record's entry by its kind, and its bytes stored part by part. Assumes nothing.
use mathlib.Core.Path.{◌≡◌, refl, ap, ◌∙◌}
use mathlib.Core.Bool.{true, false}
use mathlib.Core.List.{List, ◌++◌}
use Prim.Native.Nat.{ℕ, ◌+◌, ◌-◌, ◌*◌, ◌≤◌}
use lib.ListN.{length, drop}
use lib.Seq.{sets}
use Rattle.std.specs.Prelude.{Ok}
use Rattle.recipe.specs.declared.Record.{Record}
use Rattle.words.specs.Words.{word_bytes, words, words_bytes}
use Rattle.words.specs.laws.Runs.{front_run}
use Rattle.pcm.specs.Frames.{written}
use Rattle.recipe.specs.declared.Kind.{Kind}
use Rattle.recipe.specs.declared.Kind.TheVariants as kind
use Rattle.recipe.specs.Kinds.{kind_number}
use Rattle.recipe.specs.declared.Entry.TheVariants as entry
use Rattle.recipe.specs.laws.Records.{whole_record, whole_stage}
use Rattle.recipe.specs.Records.{of_note, field_count, length_at, kind_at, record_verdict, record_of, record_kind, entry_at, read_record, fields_of, record_bytes}

-- a stage's number is no note's
no_note : (k : Kind) → of_note (kind_number k) ≡ false
no_note kind.Gain = refl
no_note kind.MonoToStereo = refl
no_note kind.StereoToMono = refl
no_note kind.Resample = refl
no_note kind.DcBlock = refl
no_note kind.Biquad = refl

module _ (k : Kind) (left : List ℕ) (e : kind_at left ≡ kind_number k) where
  -- a whole record holds its kind's fields
  pub kind_there : record_verdict left ≡ Ok tt → 4 + 4 * field_count (kind_number k) ≤ length left
  kind_there v = rw e at (whole_stage left (whole_record left v) (ap of_note e ∙ no_note k)).there

  -- its entry
  pub stage_read : (r : Record) → record_verdict left ≡ Ok tt → r ≡ record_of (kind_number k) (words (field_count (kind_number k)) (drop 4 left)) → Ok (entry.Stage r) ≡ read_record left
  unfolding read_record entry_at
  stage_read r v h = rw (v, e, no_note k, h)

pub two_there : (left : List ℕ) → record_verdict left ≡ Ok tt → 2 ≤ length_at left
two_there left v = (whole_record left v).two

pub note_entry : (left : List ℕ) → of_note (kind_at left) ≡ true → entry_at left ≡ entry.Note (length_at left - 2)
unfolding entry_at
note_entry left h = rw h

-- the head and the fields, stored one after the other
pub record_stored : (r : Record) (out : List ℕ) → length (record_bytes r) ≤ length out
    → sets (sets (sets out 0 (word_bytes 2 (2 + 4 * length (fields_of r)))) 2 (word_bytes 2 (kind_number (record_kind r)))) 4 (words_bytes (fields_of r)) ≡ written (record_bytes r) out
unfolding record_bytes
record_stored r out h = front_run (word_bytes 2 (2 + 4 * length (fields_of r)) ++ (word_bytes 2 (kind_number (record_kind r)) ++ words_bytes (fields_of r))) out h
