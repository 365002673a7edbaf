-- What is written reads back, and what was read is written back, field by field. Assumes nothing.
use Rattle.std.specs.Prelude.{◌≡◌, true, false, List, [], ◌∷◌, ◌++◌, ℕ, zero, suc, ◌+◌, ◌*◌, ◌≤◌, ◌<◌, length, take, drop}
use Rattle.std.proofs.Math.Path.{refl}
use Rattle.std.proofs.Common.{sym, ap, ap₂, ◌∙◌, arith, take-add, drop-drop, length-take-le, to_z-of_z}
use Rattle.std.proofs.Math.ListN.{length-drop}
use Rattle.std.specs.Int.{w32}
use Rattle.std.proofs.Math.Facts.{of_z-to_z, Fits-of_z, sfits_to_z}
use Rattle.pcm.specs.Samples.{Bytes}
use Rattle.pcm.specs.laws.Frames.{all_take, all_drop}
use Rattle.recipe.specs.declared.Record.{Record}
use Rattle.recipe.specs.declared.Record.TheVariants as rec
use Rattle.words.specs.Words.{Words, word_at, word_bytes, words, words_bytes}
use Rattle.words.specs.laws.Words.{word_back, words_back, words_below}
use Rattle.recipe.specs.Kinds.{kind_number}
use Rattle.recipe.specs.Records.{of_stage, of_note, field_count, record_kind, fields_of, record_bytes, record_of, length_at, kind_at, record_at, record_here}
use Rattle.recipe.specs.laws.Records.{stage_within, WholeStage}
use Rattle.recipe.specs.RoundTrip.{Fitting}

-- ---- what is written reads back
pub fitting_words : (r : Record) → Fitting r → Words (fields_of r)
fitting_words (rec.Gain q15) f = let g = Fits-of_z f in (g.fits, tt)
fitting_words rec.MonoToStereo f = tt
fitting_words rec.StereoToMono f = tt
fitting_words (rec.Resample input output) f = f
fitting_words (rec.DcBlock corner) f = f
fitting_words (rec.Biquad rate bits) f = f

-- its kind is a stage's, and no note's
pub kind_of_stage : (r : Record) → (of_stage (kind_number (record_kind r)) ≡ true) × (of_note (kind_number (record_kind r)) ≡ false)
kind_of_stage (rec.Gain q15) = (refl, refl)
kind_of_stage rec.MonoToStereo = (refl, refl)
kind_of_stage rec.StereoToMono = (refl, refl)
kind_of_stage (rec.Resample input output) = (refl, refl)
kind_of_stage (rec.DcBlock corner) = (refl, refl)
kind_of_stage (rec.Biquad rate bits) = (refl, refl)

pub kind_small : (r : Record) → kind_number (record_kind r) < 65536
kind_small (rec.Gain q15) = omega arith
kind_small rec.MonoToStereo = omega arith
kind_small rec.StereoToMono = omega arith
kind_small (rec.Resample input output) = omega arith
kind_small (rec.DcBlock corner) = omega arith
kind_small (rec.Biquad rate bits) = omega arith

pub kind_fields : (r : Record) → field_count (kind_number (record_kind r)) ≡ length (fields_of r)
kind_fields (rec.Gain q15) = refl
kind_fields rec.MonoToStereo = refl
kind_fields rec.StereoToMono = refl
kind_fields (rec.Resample input output) = refl
kind_fields (rec.DcBlock corner) = refl
kind_fields (rec.Biquad rate bits) = refl

pub record_again : (r : Record) → Fitting r → record_of (kind_number (record_kind r)) (fields_of r) ≡ r
unfolding record_of
record_again (rec.Gain q15) f = ap rec.Gain (to_z-of_z f)
record_again rec.MonoToStereo f = refl
record_again rec.StereoToMono f = refl
record_again (rec.Resample input output) f = refl
record_again (rec.DcBlock corner) f = refl
record_again (rec.Biquad rate bits) f = refl

-- ---- what was read is written back
-- what holds of each of the six kinds holds of a stage's
by_kind : (P : ℕ → Type 0) → P 1 → P 2 → P 3 → P 4 → P 5 → P 6 → (k : ℕ) → of_stage k ≡ true → P k
by_kind P p1 p2 p3 p4 p5 p6 zero h = absurd (let m = stage_within zero h in omega arith)
by_kind P p1 p2 p3 p4 p5 p6 (suc zero) h = p1
by_kind P p1 p2 p3 p4 p5 p6 (suc (suc zero)) h = p2
by_kind P p1 p2 p3 p4 p5 p6 (suc (suc (suc zero))) h = p3
by_kind P p1 p2 p3 p4 p5 p6 (suc (suc (suc (suc zero)))) h = p4
by_kind P p1 p2 p3 p4 p5 p6 (suc (suc (suc (suc (suc zero))))) h = p5
by_kind P p1 p2 p3 p4 p5 p6 (suc (suc (suc (suc (suc (suc zero)))))) h = p6
by_kind P p1 p2 p3 p4 p5 p6 (suc (suc (suc (suc (suc (suc (suc k))))))) h = absurd (let m = stage_within (suc (suc (suc (suc (suc (suc (suc k))))))) h in omega arith)

kind_again : (k : ℕ) (fields : List ℕ) → of_stage k ≡ true → kind_number (record_kind (record_of k fields)) ≡ k
unfolding record_of
kind_again k fields h = by_kind (λ (k : ℕ). kind_number (record_kind (record_of k fields)) ≡ k) refl refl refl refl refl refl k h

count_again : (k : ℕ) (l : List ℕ) → of_stage k ≡ true → length (fields_of (record_of k l)) ≡ field_count k
unfolding record_of
count_again k l h = by_kind (λ (k : ℕ). length (fields_of (record_of k l)) ≡ field_count k) refl refl refl refl refl refl k h

fields_again : (k : ℕ) (l : List ℕ) → of_stage k ≡ true → Words (words (field_count k) l) → fields_of (record_of k (words (field_count k) l)) ≡ words (field_count k) l
unfolding record_of
fields_again k l h =
    by_kind (λ (k : ℕ). Words (words (field_count k) l) → fields_of (record_of k (words (field_count k) l)) ≡ words (field_count k) l)
    (λ f. ap (λ (x : ℕ). x ∷ []) (of_z-to_z {w = w32} (record { fits = f.0 })))
    (λ f. refl) (λ f. refl) (λ f. refl) (λ f. refl) (λ f. refl) k h

module _ (left : List ℕ) (w : WholeStage left) where
  count_read : length (fields_of (record_at left)) ≡ field_count (kind_at left)
  count_read = count_again (kind_at left) (words (field_count (kind_at left)) (drop 4 left)) w.kind

  length_again : 2 + 4 * length (fields_of (record_at left)) ≡ length_at left
  length_again = ap (λ (m : ℕ). 2 + 4 * m) count_read ∙ sym w.size

-- what was read, written again, is the same bytes
module _ (left : List ℕ) (w : WholeStage left) (b : Bytes left) where
  fields_kept : fields_of (record_at left) ≡ words (field_count (kind_at left)) (drop 4 left)
  fields_kept =
      fields_again (kind_at left) (drop 4 left) w.kind
      (words_below (field_count (kind_at left)) (drop 4 left) (rw length-drop (omega (arith, w.there))) (all_drop _ 4 left b))

  fields_bytes : words_bytes (fields_of (record_at left)) ≡ take (4 * field_count (kind_at left)) (drop 4 left)
  fields_bytes = ap words_bytes fields_kept ∙ words_back (field_count (kind_at left)) (drop 4 left) (rw length-drop (omega (arith, w.there))) (all_drop _ 4 left b)

  pair_again : (i : ℕ) → i + 2 ≤ length left → word_bytes 2 (word_at 2 i left) ≡ take 2 (drop i left)
  pair_again i h =
      let l : length (take 2 (drop i left)) ≡ 2 = length-take-le 2 (drop i left) (rw length-drop (omega arith)) in
      rw l at (word_back (take 2 (drop i left)) (all_take _ 2 (drop i left) (all_drop _ i left b)))

  parts : (n : ℕ) → take 2 left ++ (take 2 (drop 2 left) ++ take n (drop 4 left)) ≡ take (4 + n) left
  parts n =
      let e : 2 + (2 + n) ≡ 4 + n = omega arith in
      ap (λ (x : List ℕ). take 2 left ++ (take 2 (drop 2 left) ++ take n x)) (sym (drop-drop 2 2 left))
      ∙ ap (λ (x : List ℕ). take 2 left ++ x) (sym (take-add 2 n (drop 2 left))) ∙ sym (take-add 2 (2 + n) left) ∙ ap (λ (m : ℕ). take m left) e

  record_parts : (r : Record) → record_bytes r ≡ word_bytes 2 (2 + 4 * length (fields_of r)) ++ (word_bytes 2 (kind_number (record_kind r)) ++ words_bytes (fields_of r))
  unfolding record_bytes
  record_parts r = refl

  pub written_read : record_bytes (record_at left) ≡ record_here left
  written_read =
      let n : 4 + 4 * field_count (kind_at left) ≡ 2 + length_at left = omega (arith, w.size) in
      record_parts (record_at left)
      ∙ ap₂ (λ (x y : List ℕ). x ++ y) (ap (word_bytes 2) (length_again left w) ∙ pair_again 0 (omega (arith, w.four)))
      (ap₂ (λ (x y : List ℕ). x ++ y) (ap (word_bytes 2) (kind_again (kind_at left) (words (field_count (kind_at left)) (drop 4 left)) w.kind) ∙ pair_again 2 (omega (arith, w.four))) fields_bytes)
      ∙ parts (4 * field_count (kind_at left)) ∙ ap (λ (m : ℕ). take m left) n

  -- its fields fit 32 bits
  pub read_fitting : Fitting (record_at left)
  unfolding record_of
  read_fitting =
      by_kind (λ (k : ℕ). Words (words (field_count k) (drop 4 left)) → Fitting (record_of k (words (field_count k) (drop 4 left))))
      (λ f. sfits_to_z {w = w32} (record { fits = f.0 })) (λ f. tt) (λ f. tt) (λ f. f) (λ f. f) (λ f. f) (kind_at left) w.kind
      (words_below (field_count (kind_at left)) (drop 4 left) (rw length-drop (omega (arith, w.there))) (all_drop _ 4 left b))
