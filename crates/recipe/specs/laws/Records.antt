-- Laws of the definitions in Records. Assumes nothing.
use Rattle.std.specs.Prelude.{◌≡◌, refl, Bool, true, false, ◌&&◌, ◌||◌, List, [], ◌∷◌, ℕ, zero, suc, ◌+◌, ◌*◌, ◌≤◌, ◌<◌, leb, ltb, eqb, length, drop, Ok}
use Rattle.std.proofs.Common.{sym, ap, ◌∙◌, arith, ltb-true, leb-true, eqb-true}
use Rattle.std.proofs.Math.Seq.{drop-nil}
use Rattle.pcm.specs.declared.Error.TheVariants.{ShortRecord, UnknownStage, RecordLength}
use Rattle.recipe.specs.declared.Record.{Record}
use Rattle.recipe.specs.declared.Record.TheVariants as rec
use Rattle.words.specs.laws.Words.{length_words}
use Rattle.pcm.specs.laws.Tests.{both}
use Rattle.pcm.specs.laws.Refusals.{ask_yes, then_yes}
use Rattle.recipe.specs.Records.{of_stage, of_note, known, field_count, fields_of, record_bytes, length_at, kind_at, length_verdict, record_verdict, records_after, records, after_next, Whole}

pub stage_within : (kind : ℕ) → of_stage kind ≡ true → (0 < kind) × (kind ≤ 6)
stage_within kind h = let k = both (ltb 0 kind) (leb kind 6) h in (ltb-true 0 kind k.0, leb-true kind 6 k.1)

-- a known kind that is no note's is a stage's
pub no_note_stage : (kind : ℕ) → known kind ≡ true → of_note kind ≡ false → of_stage kind ≡ true
no_note_stage kind h n = first (of_stage kind) (of_note kind) h n
  where
    first : (a b : Bool) → (a || b) ≡ true → b ≡ false → a ≡ true
    first true b e k = refl
    first false b e k = sym k ∙ e

pub note_known : (kind : ℕ) → of_note kind ≡ true → known kind ≡ true
note_known kind n = second (of_stage kind) (of_note kind) n
  where
    second : (a b : Bool) → b ≡ true → (a || b) ≡ true
    second true b e = refl
    second false b e = e

-- ---- a record whose questions were all answered yes
pub whole_record : (left : List ℕ) → record_verdict left ≡ Ok tt → Whole left
unfolding record_verdict
whole_record left h =
    let a = ask_yes (leb 4 (length left) && leb 2 (length_at left)) ShortRecord _ h in
    let b = ask_yes (known (kind_at left)) UnknownStage _ a.1 in
    let c = then_yes (length_verdict (kind_at left) (length_at left)) _ b.1 in
    let d = ask_yes (leb (2 + length_at left) (length left)) ShortRecord (Ok tt) c.1 in
    let f = both (leb 4 (length left)) (leb 2 (length_at left)) a.0 in
    record { four = leb-true 4 (length left) f.0; two = leb-true 2 (length_at left) f.1; kind = b.0; size = c.0; there = leb-true _ _ d.0 }

-- of a stage
pub record WholeStage (left : List ℕ) : Type 0 where
  pub four : 4 ≤ length left
  pub kind : of_stage (kind_at left) ≡ true
  pub size : length_at left ≡ 2 + 4 * field_count (kind_at left)
  pub there : 4 + 4 * field_count (kind_at left) ≤ length left

pub whole_stage : (left : List ℕ) → Whole left → of_note (kind_at left) ≡ false → WholeStage left
whole_stage left w n =
    let e : eqb (length_at left) (2 + 4 * field_count (kind_at left)) ≡ true = (ask_yes _ RecordLength (Ok tt) (rw n at w.size)).0 in
    let s : length_at left ≡ 2 + 4 * field_count (kind_at left) = eqb-true _ _ e in
    record { four = w.four; kind = no_note_stage (kind_at left) w.kind n; size = s; there = omega (arith, w.there) }

-- ---- the records of bytes
records-drop : (pass : ℕ) (l : List ℕ) → records_after pass l ≡ records (drop pass l)
unfolding records_after
records-drop pass [] = rw (drop-nil {A = ℕ} pass)
records-drop zero (b ∷ l) = refl
records-drop (suc pass) (b ∷ l) = records-drop pass l

pub records_none : records [] ≡ []
unfolding records_after
records_none = refl

pub records_end : (left : List ℕ) → length left ≡ 0 → records left ≡ []
records_end [] h = records_none
records_end (b ∷ left) h = absurd (let z : ⊥ = omega arith in z)

pub records_next : (left : List ℕ) → 0 < length left → records left ≡ left ∷ records (after_next left)
unfolding records_after
records_next [] h = absurd (let z : ⊥ = omega arith in z)
records_next (b ∷ left) h =
    let e : 2 + length_at (b ∷ left) ≡ suc (1 + length_at (b ∷ left)) = omega arith in
    ap (λ (l : List (List ℕ)). (b ∷ left) ∷ l) (records-drop (1 + length_at (b ∷ left)) left ∙ ap (λ (n : ℕ). records (drop n (b ∷ left))) (sym e))

-- ---- the size of a record
pub record_size : (r : Record) → length (record_bytes r) ≡ 4 + 4 * length (fields_of r)
unfolding record_bytes
record_size r = omega (arith, length_words (fields_of r))

pub record_four : (r : Record) → 4 ≤ length (record_bytes r)
record_four r = omega (arith, record_size r)

pub few_record_fields : (r : Record) → length (fields_of r) ≤ 6
few_record_fields (rec.Gain q15) = omega arith
few_record_fields rec.MonoToStereo = omega arith
few_record_fields rec.StereoToMono = omega arith
few_record_fields (rec.Resample input output) = omega arith
few_record_fields (rec.DcBlock corner) = omega arith
few_record_fields (rec.Biquad rate bits) = omega arith
