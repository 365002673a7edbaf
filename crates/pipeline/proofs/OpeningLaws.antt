-- What a record's answer tells of its questions, and the rate that leaves a stage. Assumes nothing.
use Rattle.std.specs.Prelude.{Ok, Err}
use Rattle.pcm.specs.Refusals.{Verdict}
use mathlib.Core.Path.{◌≡◌, refl}
use mathlib.Core.Bool.{Bool, true, false, cond}
use mathlib.Core.List.{List}
use Prim.Native.Nat.{ℕ, ◌-◌}
use Rattle.pcm.specs.declared.PcmFormat.{PcmFormat}
use Rattle.pcm.specs.declared.Error.{Error}
use Rattle.pcm.specs.Formats.{rate_allowed}
use Rattle.rates.specs.Rates.{rates_allowed, reduced}
use Rattle.stage.specs.Stages.{format_after}
use Rattle.pcm.specs.laws.Tests.{both}
use Rattle.recipe.specs.declared.Record.{Record}
use Rattle.recipe.specs.declared.Record.TheVariants as rec
use Rattle.recipe.specs.declared.Entry.{Entry}
use Rattle.recipe.specs.declared.Entry.TheVariants as entry
use Rattle.recipe.specs.Records.{of_note, length_at, kind_at, record_at, record_verdict, entry_at, read_record, answered}
use Rattle.opening.specs.Opening.{settings_allowed, stage_kind_of}
use Rattle.pipeline.proofs.laws.Opening.{zero_not_one}

-- ---- what an answer tells of the questions
-- a stage's record
pub record StageRead (left : List ℕ) (r : Record) : Type 0 where
  pub accepted : record_verdict left ≡ Ok tt
  pub stage : of_note (kind_at left) ≡ false
  pub is : record_at left ≡ r

-- a note
pub record NoteRead (left : List ℕ) : Type 0 where
  pub accepted : record_verdict left ≡ Ok tt
  pub note : of_note (kind_at left) ≡ true

module _ (left : List ℕ) where
  read_entry : {found : Entry} → read_record left ≡ Ok found → (record_verdict left ≡ Ok tt) × (entry_at left ≡ found)
  unfolding read_record
  read_entry {found} h = go (record_verdict left) h
    where
      go : (v : Verdict) → answered v (entry_at left) ≡ Ok found → (v ≡ Ok tt) × (entry_at left ≡ found)
      go (Ok _) q = (refl, cc)
      go (Err x) q = zero_not_one (cc)

  pub read_stage : {r : Record} → read_record left ≡ Ok (entry.Stage r) → StageRead left r
  unfolding entry_at
  read_stage {r} h = go (of_note (kind_at left)) refl (read_entry h).1
    where
      go : (t : Bool) → of_note (kind_at left) ≡ t → cond t (entry.Note (length_at left - 2)) (entry.Stage (record_at left)) ≡ entry.Stage r → StageRead left r
      go false k e = record { accepted = (read_entry h).0; stage = k; is = cc }
      go true k e = zero_not_one (cc)

  pub read_note : {n : ℕ} → read_record left ≡ Ok (entry.Note n) → NoteRead left
  unfolding entry_at
  read_note {n} h = go (of_note (kind_at left)) refl (read_entry h).1
    where
      go : (t : Bool) → of_note (kind_at left) ≡ t → cond t (entry.Note (length_at left - 2)) (entry.Stage (record_at left)) ≡ entry.Note n → NoteRead left
      go false k e = zero_not_one (cc)
      go true k e = record { accepted = (read_entry h).0; note = k }

  pub read_refused : {x : Error} → read_record left ≡ Err x → record_verdict left ≡ Err x
  unfolding read_record
  read_refused {x} h = go (record_verdict left) h
    where
      go : (v : Verdict) → answered v (entry_at left) ≡ Err x → v ≡ Err x
      go (Ok _) e = zero_not_one (cc)
      go (Err y) e = cc

-- the rate that leaves a stage is within its limit
pub rate_after : (f : PcmFormat) (r : Record) → rate_allowed f.rate ≡ true → settings_allowed r ≡ true → rate_allowed (format_after f (stage_kind_of f r)).rate ≡ true
unfolding rates_allowed reduced
rate_after f (rec.Gain q15) h k = h
rate_after f rec.MonoToStereo h k = h
rate_after f rec.StereoToMono h k = h
rate_after f (rec.Resample input output) h k = (both (rate_allowed input) (rate_allowed output) k).1
rate_after f (rec.DcBlock corner) h k = h
rate_after f (rec.Biquad rate bits) h k = h
