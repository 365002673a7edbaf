-- A recipe that opens is written back without its notes, stage by stage. Assumes nothing.
use Rattle.pcm.specs.Refusals.{Verdict}
use Rattle.std.specs.Prelude.{◌≡◌, refl, Bool, true, false, List, [], ◌∷◌, ◌++◌, map, ℕ, ◌-◌, ◌≤◌, ◌<◌, ◌⊎◌, length, replicate, Ok, Err}
use Rattle.std.proofs.Common.{ap, ap₂, ◌∙◌, inl, inr, ⊎_elim, arith, length-append, take_at}
use Rattle.pcm.specs.declared.PcmFormat.{PcmFormat}
use Rattle.pcm.specs.Formats.{format_allowed}
use Rattle.pcm.specs.Samples.{All, Bytes}
use Rattle.pcm.specs.Frames.{flat}
use Rattle.rates.specs.Rates.{reduced}
use Rattle.stage.specs.declared.StageKind.{StageKind}
use Rattle.stage.specs.declared.Stage.{Stage}
use Rattle.stage.specs.Stages.{kinds_of, stage_as_opened, format_after}
use Rattle.recipe.specs.declared.Record.{Record}
use Rattle.recipe.specs.declared.Record.TheVariants as rec
use Rattle.recipe.specs.Records.{of_note, kind_at, record_bytes, record_at, record_verdict, records, WholeRecords}
use Rattle.recipe.specs.Notes.{stage_here}
use Rattle.recipe.specs.RoundTrip.{Fitting}
use Rattle.recipe.specs.Theorems.{written_accepted, written_no_note, written_record, after_written}
use Rattle.recipe.specs.laws.Records.{record_four, whole_record, whole_stage, records_next}
use Rattle.recipe.specs.laws.RoundTrip.{written_read, read_fitting}
use Rattle.pipeline.specs.declared.Pipeline.{Pipeline}
use Rattle.pipeline.specs.Opening.{Stages, opened, refused, asked, front, next_kind, open_records, open_stages, unused_stage, chain_of, open_call}
use Rattle.opening.specs.Opening.{stage_verdict, stage_kind_of}
use Rattle.pipeline.proofs.laws.Opening.{zero_not_one, open_none, stage_fits}
use Rattle.writing.specs.WritingBack.{record_of_stage, recipe_of}
use Rattle.pipeline.specs.WritingBack.{stages_of}
use Rattle.pipeline.specs.RoundTrip.{OpenedFrom}

-- a stage keeps its record, whatever its bits
pub record_kept : (f : PcmFormat) (r : Record) → record_of_stage (stage_kind_of f r) ≡ r
unfolding reduced
record_kept f (rec.Gain q15) = refl
record_kept f rec.MonoToStereo = refl
record_kept f rec.StereoToMono = refl
record_kept f (rec.Resample input output) = refl
record_kept f (rec.DcBlock corner) = refl
record_kept f (rec.Biquad rate bits) = refl

-- ---- the first of records that open
-- a note, and the others open
record NoteFirst (more : ℕ) (f : PcmFormat) (left : List ℕ) (later : List (List ℕ)) (ss : List Stage) : Type 0 where
  read : record_verdict left ≡ Ok tt
  note : of_note (kind_at left) ≡ true
  then : open_records more f later ≡ opened ss

-- a stage, and the others open
record StageFirst (more : ℕ) (f : PcmFormat) (left : List ℕ) (later : List (List ℕ)) (ss : List Stage) : Type 0 where
  rest : List Stage
  read : record_verdict left ≡ Ok tt
  stage : of_note (kind_at left) ≡ false
  fits : stage_verdict more f (record_at left) ≡ Ok tt
  stages_are : ss ≡ stage_as_opened (next_kind f left) ∷ rest
  then : open_records (more - 1) (format_after f (next_kind f left)) later ≡ opened rest

-- the first stage, and the others
split_front : (s : Stage) (x : Stages) (ss : List Stage) → front s x ≡ opened ss → (rest : List Stage) × (ss ≡ s ∷ rest) × (x ≡ opened rest)
split_front s (opened rest) ss e = (rest, cc, refl)
split_front s (refused x) ss e = zero_not_one (cc)

by_first : (more : ℕ) (f : PcmFormat) (left : List ℕ) (later : List (List ℕ)) (ss : List Stage) → open_records more f (left ∷ later) ≡ opened ss
    → NoteFirst more f left later ss ⊎ StageFirst more f left later ss
unfolding open_records
by_first more f left later ss e = by_record (record_verdict left) refl (of_note (kind_at left)) refl (stage_verdict more f (record_at left)) refl
  where
    by_record : (v : Verdict) → record_verdict left ≡ v → (t : Bool) → of_note (kind_at left) ≡ t → (w : Verdict) → stage_verdict more f (record_at left) ≡ w
        → NoteFirst more f left later ss ⊎ StageFirst more f left later ss
    by_record (Err x) a t n w b = let o = rw a at e in zero_not_one (cc)
    by_record (Ok _) a true n w b = inl (record { read = a; note = n; then = rw (a, n) at e })
    by_record (Ok _) a false n (Err x) b = let o = rw (a, n, b) at e in zero_not_one (cc)
    by_record (Ok _) a false n (Ok _) b =
        let p = split_front (stage_as_opened (next_kind f left)) (open_records (more - 1) (format_after f (next_kind f left)) later) ss (rw (a, n, b) at e) in
        inr (record { rest = p.0; read = a; stage = n; fits = b; stages_are = p.1; then = p.2 })

-- ---- records that were opened
few_stages : (more : ℕ) (f : PcmFormat) (rs : List (List ℕ)) (ss : List Stage) → open_records more f rs ≡ opened ss → length ss ≤ more
unfolding open_records
few_stages more f [] ss e = let z : ss ≡ [] = cc in rw z (omega arith)
few_stages more f (left ∷ later) ss e =
    ⊎_elim
    (λ p. few_stages more f later ss p.then)
    (λ p.
    let m = (stage_fits more f (record_at left) p.fits).0 in
    let i = few_stages (more - 1) (format_after f (next_kind f left)) later p.rest p.then in
    rw p.stages_are (omega arith))
    (by_first more f left later ss e)

pub opened_few : (more : ℕ) (f : PcmFormat) (bytes : List ℕ) (ss : List Stage) → open_stages more f bytes ≡ opened ss → length ss ≤ more
unfolding open_stages
opened_few more f bytes ss e = few_stages more f (records bytes) ss e

-- every record is whole
pub whole_records : (more : ℕ) (f : PcmFormat) (rs : List (List ℕ)) (ss : List Stage) → open_records more f rs ≡ opened ss → WholeRecords rs
whole_records more f [] ss e = tt
whole_records more f (left ∷ later) ss e =
    ⊎_elim
    (λ p. (p.read, whole_records more f later ss p.then))
    (λ p. (p.read, whole_records (more - 1) (format_after f (next_kind f left)) later p.rest p.then))
    (by_first more f left later ss e)

-- the records of the stages are those that are no notes
pub opened_recipe : (more : ℕ) (f : PcmFormat) (rs : List (List ℕ)) (ss : List Stage) → All Bytes rs → open_records more f rs ≡ opened ss → recipe_of ss ≡ flat (map stage_here rs)
unfolding open_records recipe_of
opened_recipe more f [] ss b e = let z : ss ≡ [] = cc in rw z
opened_recipe more f (left ∷ later) ss b e =
    ⊎_elim
    (λ p. rw p.note (opened_recipe more f later ss b.1 p.then))
    (λ p.
    let w = whole_stage left (whole_record left p.read) p.stage in
    ap recipe_of p.stages_are
    ∙ rw p.stage
    (ap₂ (λ (u v : List ℕ). u ++ v) (ap record_bytes (record_kept f (record_at left)) ∙ written_read left w b.0)
    (opened_recipe (more - 1) (format_after f (next_kind f left)) later p.rest b.1 p.then)))
    (by_first more f left later ss e)

-- ---- notes are passed over
-- a stage's record at the front
open_record : (more : ℕ) (f : PcmFormat) (r : Record) (rest : List ℕ) → Fitting r
    → open_stages more f (record_bytes r ++ rest) ≡ asked (stage_verdict more f r) (front (stage_as_opened (stage_kind_of f r)) (open_stages (more - 1) (format_after f (stage_kind_of f r)) rest))
unfolding open_stages open_records
open_record more f r rest fit =
    let n : 0 < length (record_bytes r ++ rest) = omega (arith, length-append (record_bytes r) rest, record_four r) in
    rw (records_next (record_bytes r ++ rest) n, written_accepted r rest, written_no_note r rest, written_record r rest fit, after_written r rest)

-- whole records open as they do without the notes among them
pub open_without_notes : (rs : List (List ℕ)) → All Bytes rs → WholeRecords rs → (more : ℕ) (f : PcmFormat) → open_stages more f (flat (map stage_here rs)) ≡ open_records more f rs
unfolding open_records
open_without_notes [] b w more f = open_none more f
open_without_notes (left ∷ later) b w more f = by_kind (of_note (kind_at left)) refl (open_without_notes later b.1 w.1)
  where
    by_kind : (t : Bool) → of_note (kind_at left) ≡ t → ((m : ℕ) (g : PcmFormat) → open_stages m g (flat (map stage_here later)) ≡ open_records m g later)
        → open_stages more f (stage_here left ++ flat (map stage_here later)) ≡ open_records more f (left ∷ later)
    by_kind true n then = rw (w.0, n) (then more f)
    by_kind false n then =
        let s = whole_stage left (whole_record left w.0) n in
        rw (w.0, n, ← written_read left s b.0)
        (open_record more f (record_at left) (flat (map stage_here later)) (read_fitting left s b.0)
        ∙ ap (λ (x : Stages). asked (stage_verdict more f (record_at left)) (front (stage_as_opened (next_kind f left)) x)) (then (more - 1) (format_after f (next_kind f left))))

-- a recipe goes by the kinds of the stages alone
pub recipe_of_kinds : (a b : List Stage) → kinds_of a ≡ kinds_of b → recipe_of a ≡ recipe_of b
unfolding recipe_of
recipe_of_kinds [] [] e = refl
recipe_of_kinds [] (t ∷ b) e = zero_not_one (cc)
recipe_of_kinds (s ∷ a) [] e = zero_not_one (cc)
recipe_of_kinds (s ∷ a) (t ∷ b) e =
    let k : s.kind ≡ t.kind = cc in
    let m : kinds_of a ≡ kinds_of b = cc in
    ap₂ (λ (x : StageKind) (l : List ℕ). record_bytes (record_of_stage x) ++ l) k (recipe_of_kinds a b m)

-- ---- the calls
-- the stages in use of a chain that was opened
pub opened_stages : (f : PcmFormat) (ss : List Stage) → stages_of (chain_of f ss) ≡ ss
unfolding chain_of
opened_stages f ss = take_at ss (replicate (8 - length ss) unused_stage) (length ss) refl

pub opened_from : (f : PcmFormat) (bytes : List ℕ) (c : Pipeline) → open_call f bytes ≡ Ok c → OpenedFrom f bytes c
unfolding open_call
opened_from f bytes c e = by_format (format_allowed f) refl (open_stages 8 f bytes) refl
  where
    by_format : (b : Bool) → format_allowed f ≡ b → (x : Stages) → open_stages 8 f bytes ≡ x → OpenedFrom f bytes c
    by_format false h x q = let v = rw h at e in cc
    by_format true h (refused y) q = let v = rw (h, q) at e in cc
    by_format true h (opened ss) q = record { allowed = h; stages = ss; opens = q; chain_is = let v = rw (h, q) at e in cc }

pub count_is : (f : PcmFormat) (ss : List Stage) → (chain_of f ss).count ≡ length ss
unfolding chain_of
count_is f ss = refl

pub format_is : (f : PcmFormat) (ss : List Stage) → (chain_of f ss).format ≡ f
unfolding chain_of
format_is f ss = refl
