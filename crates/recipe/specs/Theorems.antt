-- What the definitions come to: the chief theorems of this crate. Assumes nothing.
use Rattle.std.specs.Prelude.{◌≡◌, false, List, [], ◌++◌, drop, Ok, Err}
use Rattle.std.proofs.Math.Path.{refl, ap}
use Rattle.std.proofs.Common.{◌∙◌, arith, drop_at}
use Rattle.std.proofs.Math.Bool.{true}
use Prim.Native.Nat.{ℕ, ◌+◌, ◌*◌, ◌≤◌, ◌<◌}
use borrow.Author.Tests.{le-leb, lt-leb, eq-eqb}
use Rattle.std.proofs.Math.Dec.{leb, eqb}
use Rattle.std.proofs.Math.ListN.{length, length-append}
use Rattle.pcm.specs.declared.Error.TheVariants.{NoteTooLong}
use Rattle.recipe.specs.declared.Record.{Record}
use Rattle.recipe.specs.declared.Entry.TheVariants as entry
use Rattle.words.specs.Words.{words_bytes}
use Rattle.words.specs.laws.Words.{word_there, words_there}
use Rattle.recipe.specs.Kinds.{kind_number}
use Rattle.recipe.specs.Records.{of_note, record_kind, fields_of, record_bytes, length_at, kind_at, record_at, record_verdict, entry_at, read_record, records, after_next}
use Rattle.recipe.specs.Notes.{notes_in, without_notes}
use Rattle.recipe.specs.laws.Notes.{records_joined, none_taken_out}
use Rattle.recipe.specs.laws.Records.{note_known, record_size, few_record_fields}
use Rattle.recipe.specs.RoundTrip.{Fitting}
use Rattle.recipe.specs.laws.RoundTrip.{fitting_words, kind_of_stage, kind_small, kind_fields, record_again}

module _ (r : Record) (rest : List ℕ) where
  length_read : length_at (record_bytes r ++ rest) ≡ 2 + 4 * length (fields_of r)
  unfolding record_bytes
  length_read = word_there 2 (2 + 4 * length (fields_of r)) (omega (arith, few_record_fields r))

  kind_read : kind_at (record_bytes r ++ rest) ≡ kind_number (record_kind r)
  unfolding record_bytes
  kind_read = word_there 2 (kind_number (record_kind r)) (kind_small r)

  pub written_accepted : record_verdict (record_bytes r ++ rest) ≡ Ok tt
  unfolding record_verdict
  written_accepted =
      let n : ℕ = length (fields_of r) in
      let l : length (record_bytes r ++ rest) ≡ 4 + 4 * n + length rest = length-append (record_bytes r) rest ∙ ap (λ (m : ℕ). m + length rest) (record_size r) in
      let a : leb 4 (length (record_bytes r ++ rest)) ≡ true = le-leb 4 (length (record_bytes r ++ rest)) (omega (arith, l)) in
      let b : leb 2 (2 + 4 * n) ≡ true = le-leb 2 (2 + 4 * n) (omega arith) in
      let c : eqb (2 + 4 * n) (2 + 4 * n) ≡ true = eq-eqb (2 + 4 * n) (2 + 4 * n) refl in
      let d : leb (2 + (2 + 4 * n)) (length (record_bytes r ++ rest)) ≡ true = le-leb (2 + (2 + 4 * n)) (length (record_bytes r ++ rest)) (omega (arith, l)) in
      let k = kind_of_stage r in
      rw (length_read, kind_read, k.0, k.1, kind_fields r, a, b, c, d)

  fields_read : drop 4 (record_bytes r ++ rest) ≡ words_bytes (fields_of r) ++ rest
  unfolding record_bytes
  fields_read = refl

  pub written_record : Fitting r → record_at (record_bytes r ++ rest) ≡ r
  written_record f = rw (kind_read, kind_fields r, fields_read, words_there (fields_of r) rest (fitting_words r f)) (record_again r f)

  pub written_no_note : of_note (kind_at (record_bytes r ++ rest)) ≡ false
  written_no_note = ap of_note kind_read ∙ (kind_of_stage r).1

  -- what is written reads back as the same record, whatever follows it
  pub read_written : Fitting r → read_record (record_bytes r ++ rest) ≡ Ok (entry.Stage r)
  unfolding read_record entry_at
  read_written f = rw (written_accepted, written_no_note) (ap (λ (x : Record). Ok (entry.Stage x)) (written_record f))

  -- and is passed over to what follows it
  pub after_written : after_next (record_bytes r ++ rest) ≡ rest
  after_written = drop_at (record_bytes r) rest (2 + length_at (record_bytes r ++ rest)) (omega (arith, record_size r, length_read))

-- a longer note is 11, however much of it is there
pub longer_note : (left : List ℕ) → 4 ≤ length left → 0x8000 ≤ kind_at left → 2 + 64 < length_at left → record_verdict left ≡ Err NoteTooLong
unfolding record_verdict
longer_note left four kind long =
    let n : of_note (kind_at left) ≡ true = le-leb 0x8000 (kind_at left) kind in
    rw (le-leb 4 (length left) four, le-leb 2 (length_at left) (omega arith), note_known (kind_at left) n, n, lt-leb (length_at left) 66 long)

-- a recipe that holds no notes stays as it is without them
pub no_notes : (bytes : List ℕ) → notes_in bytes ≡ [] → without_notes bytes ≡ bytes
unfolding notes_in without_notes
no_notes bytes h = none_taken_out (records bytes) h ∙ records_joined 0 bytes
