-- What opening accepts is a chain as `FreshlyOpened` says. Assumes nothing.
use Rattle.pcm.specs.Refusals.{Verdict}
use Rattle.std.specs.Prelude.{◌≡◌, refl, Bool, true, false, ◌&&◌, cond, ℕ, ◌-◌, ◌≤◌, ◌<◌, length, Ok, Err}
use Rattle.std.proofs.Common.{sym, ap₂, ◌∙◌, subst, div-le_self, arith, lt-ltb, le-leb, eq-eqb}
use Rattle.std.proofs.Math.Path.{ap}
use mathlib.Core.List.{List, [], ◌∷◌, ◌++◌, map}
use Rattle.std.proofs.Math.ListN.{replicate}
use Rattle.std.proofs.lemmas.List.{length-map, length-replicate}
use Rattle.pcm.specs.declared.PcmFormat.{PcmFormat}
use Rattle.pcm.specs.Formats.{format_allowed}
use Rattle.pcm.specs.Samples.{All}
use Rattle.rates.specs.Divisor.{gcd}
use Rattle.rates.specs.Rates.{rates_allowed, reduced, Rates}
use Rattle.rates.specs.laws.Rates.{reduced_rates}
use Rattle.stage.specs.declared.Stage.{Stage}
use Rattle.stage.specs.declared.StageKind.{StageKind}
use Rattle.stage.specs.Stages.{memory_as_opened, stage_as_opened, format_after}
use Rattle.stage.specs.Rooms.{rates_suit, stage_suits}
use Rattle.recipe.specs.declared.Record.{Record}
use Rattle.recipe.specs.declared.Record.TheVariants as rec
use Rattle.recipe.specs.Records.{of_note, kind_at, record_at, record_verdict, records}
use Rattle.pipeline.specs.declared.Pipeline.{Pipeline}
use Rattle.pipeline.specs.Opening.{Stages, opened, refused, asked, front, next_kind, open_records, open_stages, unused_stage, chain_of, opened_of}
use Rattle.opening.specs.Opening.{settings_allowed, stage_verdict, stage_kind_of, record_suits}
use Rattle.pipeline.proofs.laws.Opening.{zero_not_one, stage_fits}
use Rattle.block.specs.BlockCall.{suited}
use Rattle.stream.specs.Opened.{RatesReduced, FreshlyOpened}
use Rattle.stream.proofs.laws.Opened.{chain_as_opened, opened_with}

and_true : {a b : Bool} → a ≡ true → b ≡ true → (a && b) ≡ true
and_true p q = ap₂ ◌&&◌ p q

-- ---- a record's stage
reduced_suit : (input output : ℕ) → rates_allowed input output ≡ true → rates_suit (reduced input output) ≡ true
unfolding rates_suit reduced
reduced_suit input output h =
    let k : Rates (reduced input output) = reduced_rates input output h in
    and_true h
    (and_true (and_true (lt-ltb _ _ k.in_r.0) (le-leb _ _ (div-le_self input (gcd input output))))
    (and_true (and_true (lt-ltb _ _ k.out_r.0) (le-leb _ _ (div-le_self output (gcd input output)))) (eq-eqb _ _ k.same_ratio)))

kind_suits : (f : PcmFormat) (r : Record) → settings_allowed r ≡ true → record_suits f r ≡ true → stage_suits f (stage_kind_of f r) memory_as_opened ≡ true
unfolding stage_suits reduced
kind_suits f (rec.Gain q15) h k = h
kind_suits f rec.MonoToStereo h k = k
kind_suits f rec.StereoToMono h k = k
kind_suits f (rec.Resample input output) h k =
    and_true (reduced_suit input output h) (and_true k (lt-ltb _ _ (reduced_rates input output h).in_r.0))
kind_suits f (rec.DcBlock corner) h k = refl
kind_suits f (rec.Biquad rate bits) h k = k

kind_reduced : (f : PcmFormat) (r : Record) → RatesReduced (stage_kind_of f r)
unfolding reduced
kind_reduced f (rec.Gain q15) = tt
kind_reduced f rec.MonoToStereo = tt
kind_reduced f rec.StereoToMono = tt
kind_reduced f (rec.Resample input output) = refl
kind_reduced f (rec.DcBlock corner) = tt
kind_reduced f (rec.Biquad rate bits) = tt

-- ---- all records
-- stages that opening returns where the format f reaches the first and so many more are allowed
pub record StagesOpened (more : ℕ) (f : PcmFormat) (ss : List Stage) : Type 0 where
  kinds : List StageKind
  stages : ss ≡ map stage_as_opened kinds
  few : length kinds ≤ more
  suit : suited f ss ≡ true
  rates : All RatesReduced kinds

abbrev pub UnlessRefused : ℕ → PcmFormat → Stages → Type 0
UnlessRefused more f (opened ss) = StagesOpened more f ss
UnlessRefused more f (refused e) = Unit {0}

no_stages : (more : ℕ) (f : PcmFormat) → StagesOpened more f []
unfolding suited
no_stages more f = record { kinds = []; stages = refl; few = omega arith; suit = refl; rates = tt }

asked_first : (more : ℕ) (f : PcmFormat) (v : Verdict) (s : Stages) → (v ≡ Ok tt → UnlessRefused more f s) → UnlessRefused more f (asked v s)
asked_first more f (Ok _) s h = h refl
asked_first more f (Err e) s h = tt

-- a note, or a stage
either_opened : (more : ℕ) (f : PcmFormat) (note : Bool) (a b : Stages) → UnlessRefused more f a → UnlessRefused more f b → UnlessRefused more f (cond note a b)
either_opened more f true a b h k = h
either_opened more f false a b h k = k

one_more : (more : ℕ) (f : PcmFormat) (k : StageKind) → 0 < more → stage_suits f k memory_as_opened ≡ true → RatesReduced k
    → (s : Stages) → UnlessRefused (more - 1) (format_after f k) s → UnlessRefused more f (front (stage_as_opened k) s)
unfolding suited
one_more more f k n h r (opened ss) v = record {
  kinds = k ∷ v.kinds;
  stages = ap (λ (l : List Stage). stage_as_opened k ∷ l) v.stages;
  few = omega (arith, v.few);
  suit = and_true h v.suit;
  rates = (r, v.rates);
}
one_more more f k n h r (refused e) v = tt

records_opened : (more : ℕ) (f : PcmFormat) (rs : List (List ℕ)) → UnlessRefused more f (open_records more f rs)
unfolding open_records
records_opened more f [] = no_stages more f
records_opened more f (left ∷ later) =
    asked_first more f (record_verdict left) _ (λ d.
    either_opened more f (of_note (kind_at left)) (open_records more f later) _ (records_opened more f later)
    (asked_first more f (stage_verdict more f (record_at left)) _ (λ e.
    let w = stage_fits more f (record_at left) e in
    one_more more f (next_kind f left) w.0 (kind_suits f (record_at left) w.1 w.2) (kind_reduced f (record_at left))
    (open_records (more - 1) (format_after f (next_kind f left)) later)
    (records_opened (more - 1) (format_after f (next_kind f left)) later))))

pub stages_opened : (more : ℕ) (f : PcmFormat) (bytes : List ℕ) → UnlessRefused more f (open_stages more f bytes)
unfolding open_stages
stages_opened more f bytes = records_opened more f (records bytes)

-- ---- the chain
module _ (f : PcmFormat) (allowed : format_allowed f ≡ true) where
  chain_of_kinds : (ks : List StageKind) → chain_of f (map stage_as_opened ks) ≡ chain_as_opened f ks (replicate (8 - length ks) unused_stage) 0 0
  unfolding chain_of
  chain_of_kinds ks =
      ap (λ (n : ℕ). let c : Pipeline = record { stages = map stage_as_opened ks ++ replicate (8 - n) unused_stage; count = n; format = f; blocks = 0; empty_blocks = 0 } in c)
      (length-map ks stage_as_opened)

  chain_opened : (ss : List Stage) → StagesOpened 8 f ss → FreshlyOpened (chain_of f ss)
  chain_opened ss v =
      subst FreshlyOpened (sym (ap (chain_of f) v.stages ∙ chain_of_kinds v.kinds))
      (opened_with f v.kinds (replicate (8 - length v.kinds) unused_stage) 0 0 (omega (arith, v.few, length-replicate (8 - length v.kinds) unused_stage)) allowed
      (sym (ap (suited f) v.stages) ∙ v.suit) v.rates)

  pub stages_chain : (s : Stages) → UnlessRefused 8 f s → (o : Pipeline) → opened_of f s ≡ Ok o → FreshlyOpened o
  stages_chain (opened ss) v o h = let k : chain_of f ss ≡ o = cc in subst FreshlyOpened k (chain_opened ss v)
  stages_chain (refused e) v o h = zero_not_one (cc)
