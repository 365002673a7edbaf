-- Laws: a chain that was opened can be kept in words. Assumes nothing.
use Rattle.std.specs.Prelude.{Ok, Err, Result}
use borrow.Author.Tests.{le-leb}
use Rattle.pcm.specs.declared.Error.{Error}
use mathlib.Core.Path.{◌≡◌, refl, ◌∙◌, subst}
use mathlib.Core.Bool.{Bool, true, false, cond}
use mathlib.Core.List.{List, [], ◌∷◌}
use Prim.Native.Nat.{ℕ, zero, suc, ◌-◌, ◌≤◌, ◌<◌}
use native.Mathlib.Omega.{arith}
use lib.ListN.{length, replicate, length-append, length-replicate}
use Rattle.pcm.specs.declared.PcmFormat.{PcmFormat}
use Rattle.pcm.specs.Refusals.{refusal, Verdict}
use Rattle.pcm.specs.Samples.{All}
use Rattle.pcm.specs.Frames.{written}
use Rattle.pcm.specs.laws.Frames.{all_append}
use Rattle.rates.specs.laws.Rates.{reduced_rates}
use Rattle.recipe.specs.declared.Record.{Record}
use Rattle.recipe.specs.declared.Record.TheVariants as rec
use Rattle.recipe.specs.Records.{of_note, kind_at, record_at, record_verdict, records}
use Rattle.stage.specs.declared.Stage.{Stage}
use Rattle.stage.specs.Stages.{stage_as_opened, format_after}
use Rattle.opening.specs.Opening.{settings_allowed, stage_verdict, stage_kind_of}
use Rattle.pipeline.specs.Opening.{Stages, opened, refused, asked, front, next_kind, open_records, open_stages, unused_stage, chain_of, open_call}
use Rattle.pipeline.proofs.laws.Opening.{stage_fits}
use Rattle.pipeline.specs.declared.Pipeline.{Pipeline}
use Rattle.pipeline.proofs.laws.RoundTrip.{opened_few, opened_from}
use Rattle.stage_words.specs.Storable.{HeldStage, SmallKind, Small}
use Rattle.chain_words.specs.Layout.{words_of, chain_of_words}
use Rattle.chain_words.specs.Storable.{Storable}
use Rattle.chain_words.specs.Theorems.{written_stands}
use Rattle.chain_words.specs.laws.Chains.{length_words}
use Rattle.muzgleur.specs.Results.{open_outcome}

-- ---- one stage
small_kind : (f : PcmFormat) (r : Record) → settings_allowed r ≡ true → SmallKind (stage_kind_of f r)
small_kind f (rec.Gain q15) h = tt
small_kind f rec.MonoToStereo h = tt
small_kind f rec.StereoToMono h = tt
small_kind f (rec.Resample input output) h = let k = reduced_rates input output h in (omega (arith, k.in_r.1), omega (arith, k.out_r.1))
small_kind f (rec.DcBlock corner) h = tt
small_kind f (rec.Biquad rate bits) h = refl

-- ---- the stages of a recipe
asked_opened : (v : Verdict) (x : Stages) (ss : List Stage) → asked v x ≡ opened ss → (v ≡ Ok tt) × (x ≡ opened ss)
asked_opened (Ok _) x ss e = (refl, e)
asked_opened (Err r) x ss e = (cc, cc)

no_more : (ss : List Stage) → opened [] ≡ opened ss → All Small ss
no_more [] e = tt
no_more (s ∷ ss) e = let z : ◌≡◌ {A = ℕ} 0 1 = cc in absurd (let b : ⊥ = omega arith in b)

one_more : (s : Stage) (x : Stages) (ss : List Stage) → front s x ≡ opened ss → Small s → ((rest : List Stage) → x ≡ opened rest → All Small rest) → All Small ss
one_more s (opened rest) ss e h more = let q : s ∷ rest ≡ ss = cc in subst (λ (l : List Stage). All Small l) q (h, more rest refl)
one_more s (refused r) ss e h more = let z : ◌≡◌ {A = ℕ} 0 1 = cc in absurd (let b : ⊥ = omega arith in b)

-- a note, or a stage
either : (note : Bool) (x y : Stages) (ss : List Stage) → cond note x y ≡ opened ss → (x ≡ opened ss → All Small ss) → (y ≡ opened ss → All Small ss) → All Small ss
either true x y ss e h k = h e
either false x y ss e h k = k e

small_records : (more : ℕ) (f : PcmFormat) (rs : List (List ℕ)) (ss : List Stage) → open_records more f rs ≡ opened ss → All Small ss
unfolding open_records
small_records more f [] ss e = no_more ss e
small_records more f (left ∷ later) ss e =
    let r = record_at left in
    let p = asked_opened (record_verdict left) _ ss e in
    either (of_note (kind_at left)) (open_records more f later) _ ss p.1 (small_records more f later ss) (λ h.
    let q = asked_opened (stage_verdict more f r) _ ss h in
    let k = small_kind f r (stage_fits more f r q.0).1 in
    one_more (stage_as_opened (stage_kind_of f r)) (open_records (more - 1) (format_after f (next_kind f left)) later) ss q.1 (record { kind = k; phase = omega arith })
    (small_records (more - 1) (format_after f (next_kind f left)) later))

small_opened : (more : ℕ) (f : PcmFormat) (bytes : List ℕ) (ss : List Stage) → open_stages more f bytes ≡ opened ss → All Small ss
unfolding open_stages
small_opened more f bytes ss e = small_records more f (records bytes) ss e

small_unused : (n : ℕ) → All Small (replicate n unused_stage)
small_unused zero = tt
small_unused (suc n) = (record { kind = tt; phase = omega arith }, small_unused n)

-- ---- the chain
module _ (f : PcmFormat) (channels : f.channels < 65536) where
  chain_storable : (ss : List Stage) → length ss ≤ 8 → All Small ss → All HeldStage (chain_of f ss).stages → Storable (chain_of f ss)
  unfolding chain_of
  chain_storable ss few small held = record {
    places = length-append ss (replicate (8 - length ss) unused_stage) ∙ omega (arith, length-replicate (8 - length ss) unused_stage);
    count = few;
    channels = channels;
    held = held;
    small = all_append Small ss (replicate (8 - length ss) unused_stage) small (small_unused (8 - length ss));
  }

  opened_storable : (bytes : List ℕ) (c : Pipeline) → open_call f bytes ≡ Ok c → All HeldStage c.stages → Storable c
  opened_storable bytes c e held =
      let o = opened_from f bytes c e in
      let few = opened_few 8 f bytes o.stages o.opens in
      let small = small_opened 8 f bytes o.stages o.opens in
      rw o.chain_is (chain_storable o.stages few small (rw o.chain_is at held))

  -- it has as many words as there are places for
  opened_long : (ss : List Stage) → length ss ≤ 8 → length (words_of (chain_of f ss)) ≡ 152
  unfolding chain_of
  opened_long ss few = length_words (chain_of f ss) (length-append ss (replicate (8 - length ss) unused_stage) ∙ omega (arith, length-replicate (8 - length ss) unused_stage))

  pub open_long : (bytes : List ℕ) (c : Pipeline) → open_call f bytes ≡ Ok c → length (words_of c) ≡ 152
  open_long bytes c e =
      let o = opened_from f bytes c e in
      rw o.chain_is (opened_long o.stages (opened_few 8 f bytes o.stages o.opens))

  -- after an opening the words stand for the chain opened
  pub open_stands : (bytes w : List ℕ) (c : Pipeline) → open_call f bytes ≡ Ok c → All HeldStage c.stages → chain_of_words (written (words_of c) w) ≡ c
  open_stands bytes w c e held = written_stands c (opened_storable bytes c e held) w

-- ---- enough words: what an opening answers and leaves
module _ (w : List ℕ) (long : 152 ≤ length w) (o : Result Pipeline Error) (n : ℕ) (left : List ℕ) where
  pub open_accepted : (c : Pipeline) → o ≡ Ok c → n ≡ 0 → left ≡ written (words_of c) w → record { number = n; words = left } ≡ open_outcome w o
  open_accepted c e q k = rw (le-leb 152 (length w) long, e, q, k)

  pub open_refused : (x : Error) → o ≡ Err x → n ≡ (refusal x).number → left ≡ w → record { number = n; words = left } ≡ open_outcome w o
  open_refused x e q k = rw (le-leb 152 (length w) long, e, q, k)
