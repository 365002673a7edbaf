-- Laws of the definitions in Opening. Assumes nothing.
use Rattle.pcm.specs.Refusals.{Verdict}
use Rattle.std.specs.Prelude.{◌≡◌, refl, true, false, List, [], ◌∷◌, ℕ, ◌-◌, ◌<◌, ltb, Ok, Err}
use Rattle.std.proofs.Common.{arith, ltb-true}
use Rattle.pcm.specs.declared.PcmFormat.{PcmFormat}
use Rattle.pcm.specs.declared.Error.{Error}
use Rattle.pcm.specs.declared.Error.TheVariants.{Unsupported, TooManyStages, SettingOutOfRange}
use Rattle.stage.specs.declared.StageKind.{StageKind}
use Rattle.stage.specs.Stages.{stage_as_opened, format_after}
use Rattle.pcm.specs.laws.Refusals.{ask_yes}
use Rattle.recipe.specs.declared.Record.{Record}
use Rattle.recipe.specs.Records.{of_note, kind_at, record_at, record_verdict}
use Rattle.recipe.specs.laws.Records.{records_none}
use Rattle.pipeline.specs.Opening.{opened, refused, front, next_kind, open_records, open_stages}
use Rattle.opening.specs.Opening.{settings_allowed, record_suits, stage_verdict, stage_kind_of, stage_answer_of, stage_answer}

pub zero_not_one : {X : Type 0} → ◌≡◌ {A = ℕ} 0 1 → X
zero_not_one e = absurd (let z : ⊥ = omega arith in z)

module _ (more : ℕ) (f : PcmFormat) (r : Record) where
  pub stage_accepted : {k : StageKind} → stage_answer more f r ≡ Ok k → (stage_verdict more f r ≡ Ok tt) × (stage_kind_of f r ≡ k)
  stage_accepted {k} h = go (stage_verdict more f r) h
    where
      go : (v : Verdict) → stage_answer_of v (stage_kind_of f r) ≡ Ok k → (v ≡ Ok tt) × (stage_kind_of f r ≡ k)
      go (Ok _) e = (refl, cc)
      go (Err x) e = zero_not_one (cc)

  pub stage_refused : {x : Error} → stage_answer more f r ≡ Err x → stage_verdict more f r ≡ Err x
  stage_refused {x} h = go (stage_verdict more f r) h
    where
      go : (v : Verdict) → stage_answer_of v (stage_kind_of f r) ≡ Err x → v ≡ Err x
      go (Ok _) e = zero_not_one (cc)
      go (Err y) e = cc

  -- a stage that is taken is among the first eight, within its limits, and suits the format
  pub stage_fits : stage_verdict more f r ≡ Ok tt → (0 < more) × (settings_allowed r ≡ true) × (record_suits f r ≡ true)
  unfolding stage_verdict
  stage_fits h =
      let a = ask_yes (ltb 0 more) TooManyStages _ h in
      let b = ask_yes (settings_allowed r) SettingOutOfRange _ a.1 in
      let c = ask_yes (record_suits f r) Unsupported (Ok tt) b.1 in
      (ltb-true 0 more a.0, b.0, c.0)

-- ---- one record more
pub open_none : (more : ℕ) (f : PcmFormat) → open_stages more f [] ≡ opened []
unfolding open_stages open_records
open_none more f = rw records_none

module _ (f : PcmFormat) (more : ℕ) (left : List ℕ) (later : List (List ℕ)) where
  pub open_short : {x : Error} → record_verdict left ≡ Err x → open_records more f (left ∷ later) ≡ refused x
  unfolding open_records
  open_short e = rw e

  module _ (e : record_verdict left ≡ Ok tt) where
    pub open_note : of_note (kind_at left) ≡ true → open_records more f (left ∷ later) ≡ open_records more f later
    unfolding open_records
    open_note n = rw (e, n)

    module _ (s : of_note (kind_at left) ≡ false) where
      pub open_unfit : {x : Error} → stage_verdict more f (record_at left) ≡ Err x → open_records more f (left ∷ later) ≡ refused x
      unfolding open_records
      open_unfit k = rw (e, s, k)

      pub open_next : stage_verdict more f (record_at left) ≡ Ok tt
          → open_records more f (left ∷ later) ≡ front (stage_as_opened (next_kind f left)) (open_records (more - 1) (format_after f (next_kind f left)) later)
      unfolding open_records
      open_next k = rw (e, s, k)
