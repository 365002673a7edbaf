-- The records of a recipe and the questions that their bytes are asked (document 01, 'The recipe' and 'The questions'; document 02, Q-4). Definitions only.
use Rattle.pcm.specs.declared.Error.{Error}
use Rattle.std.specs.Prelude.{◌≡◌, Bool, true, ◌&&◌, ◌||◌, cond, List, [], ◌∷◌, ◌++◌, ℕ, zero, suc, ◌+◌, ◌-◌, ◌*◌, ◌≤◌, leb, ltb, eqb, length, get_or, take, drop, Ok, Err, Result, Option, Some, None}
use Rattle.std.specs.Int.{w32}
use Rattle.std.proofs.Common.{to_z, of_z}
use Rattle.pcm.specs.Samples.{All}
use Rattle.pcm.specs.Refusals.{ask, and_then, Verdict}
use Rattle.pcm.specs.declared.Error.TheVariants.{ShortRecord, UnknownStage, RecordLength, NoteTooLong}
use Rattle.recipe.specs.declared.Kind.{Kind}
use Rattle.recipe.specs.declared.Kind.TheVariants as kind
use Rattle.recipe.specs.declared.Record.{Record}
use Rattle.recipe.specs.declared.Record.TheVariants as rec
use Rattle.recipe.specs.declared.Entry.{Entry}
use Rattle.recipe.specs.declared.Entry.TheVariants as entry
use Rattle.words.specs.Words.{word_at, word_bytes, words, words_bytes}
use Rattle.recipe.specs.Kinds.{kind_number, kind_numbered, fields_in}

abbrev pub of_stage : ℕ → Bool
of_stage kind = ltb 0 kind && leb kind 6

-- kinds 0x8000 and above are notes, and no stages
abbrev pub of_note : ℕ → Bool
of_note kind = leb 0x8000 kind

abbrev pub known : ℕ → Bool
known kind = of_stage kind || of_note kind

-- how many fields of 32 bits the kind with this number has
abbrev pub field_count : ℕ → ℕ
field_count kind = fields_in (kind_numbered kind)

-- the kind of a stage's record
abbrev pub record_kind : Record → Kind
record_kind (rec.Gain q15) = kind.Gain
record_kind rec.MonoToStereo = kind.MonoToStereo
record_kind rec.StereoToMono = kind.StereoToMono
record_kind (rec.Resample input output) = kind.Resample
record_kind (rec.DcBlock corner) = kind.DcBlock
record_kind (rec.Biquad rate bits) = kind.Biquad

-- its fields. Gain: q15, signed 32-bit. Resample: input rate, output rate. DC: corner as binary32 bits. Biquad: rate, then b0, b1, b2, a1, a2 as binary32 bits
abbrev pub fields_of : Record → List ℕ
fields_of (rec.Gain q15) = of_z w32 q15 ∷ []
fields_of rec.MonoToStereo = []
fields_of rec.StereoToMono = []
fields_of (rec.Resample input output) = input ∷ output ∷ []
fields_of (rec.DcBlock corner) = corner ∷ []
fields_of (rec.Biquad rate bits) = rate ∷ bits.b0 ∷ bits.b1 ∷ bits.b2 ∷ bits.a1 ∷ bits.a2 ∷ []

-- two-byte length, counting what follows it; two-byte kind; fields
unfoldable pub record_bytes : Record → List ℕ
record_bytes r = word_bytes 2 (2 + 4 * length (fields_of r)) ++ (word_bytes 2 (kind_number (record_kind r)) ++ words_bytes (fields_of r))

-- the record of a kind with these fields
abbrev pub record_with : Option Kind → List ℕ → Record
record_with (Some kind.Gain) fields = rec.Gain (to_z w32 (get_or fields 0 0))
record_with (Some kind.MonoToStereo) fields = rec.MonoToStereo
record_with (Some kind.StereoToMono) fields = rec.StereoToMono
record_with (Some kind.Resample) fields = rec.Resample (get_or fields 0 0) (get_or fields 1 0)
record_with (Some kind.DcBlock) fields = rec.DcBlock (get_or fields 0 0)
record_with (Some kind.Biquad) fields = rec.Biquad (get_or fields 0 0) (record { b0 = get_or fields 1 0; b1 = get_or fields 2 0; b2 = get_or fields 3 0; a1 = get_or fields 4 0; a2 = get_or fields 5 0 })
record_with None fields = rec.MonoToStereo

unfoldable pub record_of : ℕ → List ℕ → Record
record_of kind fields = record_with (kind_numbered kind) fields

-- ---- the bytes that are left, from a record's first on
abbrev pub length_at : List ℕ → ℕ
length_at left = word_at 2 0 left

abbrev pub kind_at : List ℕ → ℕ
kind_at left = word_at 2 2 left

abbrev pub record_at : List ℕ → Record
record_at left = record_of (kind_at left) (words (field_count (kind_at left)) (drop 4 left))

-- a note has 0 to 64 bytes, and a longer one is 11. Is a stage's length that kind's? else 7. A length counts the two bytes of the kind
abbrev pub length_verdict : ℕ → ℕ → Verdict
length_verdict kind length =
    cond (of_note kind)
    (ask (leb length (2 + 64)) NoteTooLong (Ok tt))
    (ask (eqb length (2 + 4 * field_count kind)) RecordLength (Ok tt))

-- are four bytes left, and is the length at least 2? else 5. Is the kind known? else 6. Is the length one that kind has? else 7, of a note 11. Is the whole record there? else 5.
unfoldable pub record_verdict : List ℕ → Verdict
record_verdict left =
    ask (leb 4 (length left) && leb 2 (length_at left)) ShortRecord
    (ask (known (kind_at left)) UnknownStage
    (and_then (length_verdict (kind_at left) (length_at left))
    (ask (leb (2 + length_at left) (length left)) ShortRecord
    (Ok tt))))

-- a note of so many bytes, or a stage's record
unfoldable pub entry_at : List ℕ → Entry
entry_at left = cond (of_note (kind_at left)) (entry.Note (length_at left - 2)) (entry.Stage (record_at left))

abbrev pub answered : Verdict → Entry → Result Entry Error
answered (Ok _) found = Ok found
answered (Err e) found = Err e

unfoldable pub read_record : List ℕ → Result Entry Error
read_record left = answered (record_verdict left) (entry_at left)

-- ---- all records
-- the bytes that are left at the first byte of each record, where so many are passed over before the next one. A record is its two-byte length and as many bytes as that says
unfoldable pub records_after : ℕ → List ℕ → List (List ℕ)
records_after pass [] = []
records_after zero (b ∷ left) = (b ∷ left) ∷ records_after (1 + length_at (b ∷ left)) left
records_after (suc pass) (b ∷ left) = records_after pass left

abbrev pub records : List ℕ → List (List ℕ)
records bytes = records_after 0 bytes

-- the bytes of the record at the front
abbrev pub record_here : List ℕ → List ℕ
record_here left = take (2 + length_at left) left

-- the bytes after it
abbrev pub after_next : List ℕ → List ℕ
after_next left = drop (2 + length_at left) left

-- its questions all answered yes
pub record Whole (left : List ℕ) : Type 0 where
  pub four : 4 ≤ length left
  pub two : 2 ≤ length_at left
  pub kind : known (kind_at left) ≡ true
  pub size : length_verdict (kind_at left) (length_at left) ≡ Ok tt
  pub there : 2 + length_at left ≤ length left

-- the questions of every record answered yes
abbrev pub WholeRecords : List (List ℕ) → Type 0
WholeRecords rs = All (λ (left : List ℕ). record_verdict left ≡ Ok tt) rs

-- ---- a record's kind, as it is read
-- the kind that has the number, or none where the number is a note's
abbrev pub KindRead : Option Kind → ℕ → Type 0
KindRead (Some k) number = number ≡ kind_number k
KindRead None number = of_note number ≡ true
