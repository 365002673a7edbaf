-- Laws of the definitions in Page. Assumes nothing.
use Rattle.std.specs.Prelude.{◌≡◌, refl, Bool, true, false, cond, List, [], ◌∷◌, ℕ, ◌*◌, ◌/◌, ◌%◌, ◌≤◌, leb, ltb, length, Result, Ok, Err}
use Rattle.std.proofs.Common.{sym, arith, leb-true}
use Rattle.pcm.specs.declared.PcmFormat.{PcmFormat}
use Rattle.pcm.specs.declared.Error.{Error}
use Rattle.pcm.specs.declared.Error.TheVariants.{TooLong}
use Rattle.pipeline.specs.declared.Pipeline.{Pipeline}
use Rattle.pcm.specs.Refusals.{refusal, verdict_of, Verdict}
use Rattle.recipe.specs.Records.{records, WholeRecords}
use Rattle.pipeline.specs.Opening.{open_call}
use Rattle.pipeline.proofs.Theorems.{opened_whole}
use Rattle.desk.specs.Desk.{desk_open}
use Rattle.note_lines.specs.Lines.{digit}
use Rattle.note_lines.specs.Page.{desk_verdict, number_line, printed}
use Rattle.note_lines.specs.laws.Lines.{lines_fit}

-- where a recipe is accepted its records are whole, and within the limit
abbrev pub Readable : Verdict → List ℕ → Type 0
Readable (Ok _) recipe = WholeRecords (records recipe) × (length recipe ≤ 1048576)
Readable (Err e) recipe = Unit {0}

accepted_whole : (f : PcmFormat) (recipe : List ℕ) → verdict_of (open_call f recipe) ≡ Ok tt → WholeRecords (records recipe)
accepted_whole f recipe h = go (open_call f recipe) refl h
  where
    go : (r : Result Pipeline Error) → open_call f recipe ≡ r → verdict_of r ≡ Ok tt → WholeRecords (records recipe)
    go (Ok c) e h = opened_whole f recipe c e
    go (Err x) e h = cc

within_limit : (f : PcmFormat) (recipe : List ℕ) (t : Bool) → leb (length recipe) 1048576 ≡ t → verdict_of (cond t (open_call f recipe) (Err TooLong)) ≡ Ok tt → Readable (Ok tt) recipe
within_limit f recipe true e h = (accepted_whole f recipe h, leb-true (length recipe) 1048576 e)
within_limit f recipe false e h = cc

pub desk_readable : (f : PcmFormat) (recipe : List ℕ) (v : Verdict) → v ≡ desk_verdict f recipe → Readable v recipe
unfolding desk_verdict desk_open
desk_readable f recipe (Ok _) e = within_limit f recipe (leb (length recipe) 1048576) refl (sym e)
desk_readable f recipe (Err x) e = tt

-- ---- sizes
number_short : (n : ℕ) → length (number_line n) ≤ 3
unfolding number_line
number_short n = by_size (ltb n 10)
  where
    by_size : (t : Bool) → length (cond t (digit n ∷ 0x0a ∷ []) (digit (n / 10) ∷ digit (n % 10) ∷ 0x0a ∷ [])) ≤ 3
    by_size true = omega arith
    by_size false = omega arith

pub printed_fits : (v : Verdict) (recipe : List ℕ) (room : ℕ) → Readable v recipe → 2 * length recipe ≤ room → 3 ≤ room → length (printed v recipe) ≤ room
printed_fits (Ok _) recipe room r h k = omega (arith, lines_fit recipe r.0)
printed_fits (Err e) recipe room r h k = omega (arith, number_short (refusal e).number)
