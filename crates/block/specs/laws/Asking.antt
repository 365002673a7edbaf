-- The walk that asks, from one stage to the next and to its end. Assumes nothing.
use Rattle.std.specs.Prelude.{◌≡◌, true, List, ℕ, ◌+◌, ◌≤◌, ◌<◌, leb, ltb, length, take, drop, get_or, Result, Ok, Err, IfOk}
use Rattle.std.proofs.Common.{sym, ap, ◌∙◌, subst, arith, leb-true, ltb-true}
use Rattle.pcm.specs.declared.PcmFormat.{PcmFormat}
use Rattle.pcm.specs.declared.Error.{Error}
use Rattle.pcm.specs.Formats.{format_allowed, rate_allowed, channels_allowed}
use Rattle.stage.specs.declared.Stage.{Stage}
use Rattle.pcm.specs.laws.Tests.{both}
use Rattle.pipeline.specs.declared.Pipeline.{Pipeline}
use Rattle.questions.specs.declared.Question.{Question}
use Rattle.questions.specs.declared.Question.TheVariants.{Block}
use Rattle.questions.specs.declared.Walk.{Walk}
use Rattle.pipeline.specs.WritingBack.{stages_of}
use Rattle.block.specs.BlockCall.{block_verdict}
use Rattle.block.specs.laws.Steps.{stage_at_lem, stages_end, drop_zero}
use Rattle.questions.specs.Walk.{head_legal, stepped, begun, walk_on, walked, ShortFits, Walked, verdict_from}
use Rattle.block.specs.laws.Walking.{Within, few, step_within, begun_within, verdict_is}
use Rattle.questions.specs.laws.Walking.{walked_step, walked_none}
use Rattle.stage.specs.Places.{no_stage}
use Rattle.block.specs.laws.Counts.{no_stages, some_stages, not_none}

-- what a legal head says
pub record Head (f : PcmFormat) (count : ℕ) : Type 0 where
  pub few : count ≤ 8
  pub rate : (0 < f.rate) × (f.rate ≤ 384000)
  pub channels : (0 < f.channels) × (f.channels ≤ 2)

pub head_parts : (f : PcmFormat) (count : ℕ) → head_legal f count ≡ true → Head f count
unfolding format_allowed rate_allowed channels_allowed
head_parts f count h =
    let p = both (leb count 8) (format_allowed f) h in
    let a = both (channels_allowed f.channels) (rate_allowed f.rate) p.1 in
    let b = both (ltb 0 f.channels) (leb f.channels 2) a.0 in
    let d = both (ltb 0 f.rate) (leb f.rate 384000) a.1 in
    record { few = leb-true _ _ p.0; rate = (ltb-true _ _ d.0, leb-true _ _ d.1); channels = (ltb-true _ _ b.0, leb-true _ _ b.1) }

-- before stage i + 1: what the whole walk finds is what it finds from here on
pub record Asks (q : Question) (shorter first : ℕ) (stages : List Stage) (count : ℕ) (start w : Walk) (i : ℕ) : Type 0 where
  pub at_most : i ≤ count
  pub few : count ≤ 8
  pub long : length stages ≡ 8
  pub rate : (0 < first) × (first ≤ 384000)
  pub within : Within first w i
  pub so_far : walked q shorter start (take count stages) ≡ walked q shorter w (drop i (take count stages))

pub asks_first : (q : Question) (shorter size n count : ℕ) (f : PcmFormat) (stages : List Stage) (w : Walk) → head_legal f count ≡ true → length stages ≡ 8 → w ≡ begun f n size shorter
    → Asks q shorter f.rate stages count w w 0
asks_first q shorter size n count f stages w h len e =
    let k = head_parts f count h in
    record {
      at_most = omega arith;
      few = k.few;
      long = len;
      rate = k.rate;
      within = subst (λ (v : Walk). Within f.rate v 0) (sym e) (begun_within f n size shorter k.rate.1 k.channels);
      so_far = ap (walked q shorter w) (sym (drop_zero (take count stages)));
    }

-- the same, with the rate that the walk begins with
pub asks_begin : (q : Question) (shorter size n count : ℕ) (f : PcmFormat) (stages : List Stage) (w : Walk) → head_legal f count ≡ true → length stages ≡ 8 → w ≡ begun f n size shorter
    → Asks q shorter w.format.rate stages count w w 0
unfolding begun
asks_begin q shorter size n count f stages w h len e =
    subst (λ (r : ℕ). Asks q shorter r stages count w w 0) (sym (ap (λ (x : Walk). x.format.rate) e)) (asks_first q shorter size n count f stages w h len e)

module _ (q : Question) (shorter first : ℕ) (stages : List Stage) (count : ℕ) (start w : Walk) (i : ℕ) (p : Asks q shorter first stages count start w i) where
  pub asks_fits : i < count → (w.frames ≤ 2400000000000) × ((0 < w.format.channels) × (w.format.channels ≤ 2))
  asks_fits h = (few first p.rate.0 p.rate.1 w i (omega (arith, p.few)) p.within, p.within.channels)

  asks_here : i < count → walked q shorter start (take count stages) ≡ walk_on (stepped q shorter w (get_or stages i no_stage)) (λ x. walked q shorter x (drop (i + 1) (take count stages)))
  asks_here h =
      p.so_far ∙ ap (walked q shorter w) (stage_at_lem stages count i no_stage h (omega (arith, p.few, p.long)))
      ∙ walked_step q shorter w (get_or stages i no_stage) (drop (i + 1) (take count stages))

  pub asks_next : i < count → (v : Walk) → stepped q shorter w (get_or stages i no_stage) ≡ Ok v → Asks q shorter first stages count start v (i + 1)
  asks_next h v e = record {
    at_most = omega arith;
    few = p.few;
    long = p.long;
    rate = p.rate;
    within = step_within first p.rate.0 p.rate.1 w i (omega (arith, p.few)) p.within q shorter (get_or stages i no_stage) v e;
    so_far = asks_here h ∙ ap (λ (r : Result Walk Error). walk_on r (λ x. walked q shorter x (drop (i + 1) (take count stages)))) e;
  }

  pub asks_stop : i < count → (x : Error) → stepped q shorter w (get_or stages i no_stage) ≡ Err x → walked q shorter start (take count stages) ≡ Err x
  asks_stop h x e = asks_here h ∙ ap (λ (r : Result Walk Error). walk_on r (λ v. walked q shorter v (drop (i + 1) (take count stages)))) e

  pub asks_end : count ≤ i → walked q shorter start (take count stages) ≡ Ok w
  asks_end h = p.so_far ∙ ap (walked q shorter w) (stages_end stages count i h) ∙ walked_none q shorter w

-- a walk that a stage ended
pub ends_refused : (r found : Result Walk Error) (x : Error) → r ≡ Err x → found ≡ Err x → Walked r found
ends_refused r found x e f = record { is = e ∙ sym f; fits = subst (λ (y : Result Walk Error). IfOk y (λ w. (w.largest ≤ 3688000000000000000) × ShortFits w.short)) (sym e) tt }

-- and one that came to its end
pub ends_found : (r found : Result Walk Error) (w : Walk) → Walked r found → r ≡ Ok w → (w.largest ≤ 3688000000000000000) × ShortFits w.short
ends_found r found w p e = subst (λ (y : Result Walk Error). IfOk y (λ x. (x.largest ≤ 3688000000000000000) × ShortFits x.short)) e p.fits

-- the verdict of the whole walk is the definition's
pub walk_verdict : (c : Pipeline) (format : PcmFormat) (size short : ℕ) (start : Walk) (r : Result Walk Error) → head_legal c.format c.count ≡ true → length c.stages ≡ 8
    → start ≡ begun c.format c.count size short → r ≡ walked Block short start (stages_of c) → verdict_from c.format format size r ≡ block_verdict c format size short
walk_verdict c format size short start r h len e m =
    ap (verdict_from c.format format size) (m ∙ ap (λ (x : Walk). walked Block short x (stages_of c)) e)
    ∙ verdict_is c format size short h (no_stages c) (λ z. not_none (stages_of c) (some_stages c (head_parts c.format c.count h).few z len))
