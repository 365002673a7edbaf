-- What the questions find of a chain that answered its head, and of one that did not. Assumes nothing.
use Rattle.std.specs.Prelude.{◌≡◌, true, ℕ, ◌*◌, ◌≤◌, ◌<◌, Ok, Err, Result}
use Rattle.std.proofs.Common.{sym, ap, ◌∙◌}
use Rattle.pcm.specs.declared.PcmFormat.{PcmFormat}
use Rattle.pcm.specs.declared.Error.{Error}
use Rattle.pcm.specs.Refusals.{Verdict}
use Rattle.pipeline.specs.declared.Pipeline.{Pipeline}
use Rattle.pipeline.specs.WritingBack.{stages_of}
use Rattle.questions.specs.declared.Question.{Question}
use Rattle.questions.specs.declared.Question.TheVariants.{Block, AnyState}
use Rattle.questions.specs.declared.Walk.{Walk}
use Rattle.questions.specs.Walk.{head_legal, size_verdict, begun, walked, verdict_from}
use Rattle.chains.specs.declared.Head.{Head}
use Rattle.chains.specs.Chains.{head_of, Headed}
use Rattle.chains.specs.laws.Heads.{headless}
use Rattle.block.specs.BlockCall.{block_verdict, scratch_answer, scratch_bytes}
use Rattle.block.specs.laws.Asking.{Asks, head_parts, asks_begin, walk_verdict}
use Rattle.block.specs.laws.Concluding.{head_refused}
use Rattle.block.specs.laws.Walking.{scratch_refused, scratch_walked, scratch_unsuited}

module _ (c : Pipeline) (own : Head) (e : Headed c own) where
  pub format_is : own.format ≡ c.format
  format_is = ap (λ (h : Head). h.format) e.is

  pub count_is : own.count ≡ c.count
  count_is = ap (λ (h : Head). h.count) e.is

  own_legal : head_legal own.format own.count ≡ true
  own_legal = ap (λ (h : Head). head_legal h.format h.count) e.is ∙ e.legal

  pub own_few : own.count ≤ 8
  own_few = (head_parts own.format own.count own_legal).few

  pub own_channels : (0 < own.format.channels) × (own.format.channels ≤ 2)
  own_channels = (head_parts own.format own.count own_legal).channels

  -- ---- where the walk that asks begins
  pub asks_from : (q : Question) (shorter size n : ℕ) (w : Walk) → w ≡ begun own.format n size shorter → Asks q shorter w.format.rate c.stages own.count w w 0
  asks_from q shorter size n w b = asks_begin q shorter size n own.count own.format c.stages w own_legal e.eight b

  -- ---- what it comes to
  pub verdict_at : (format : PcmFormat) (size short : ℕ) (start : Walk) (r : Result Walk Error) → start ≡ begun own.format own.count size short → r ≡ walked Block short start (stages_of c)
      → verdict_from own.format format size r ≡ block_verdict c format size short
  verdict_at format size short start r b m =
      ap (λ (f : PcmFormat). verdict_from f format size r) format_is
      ∙ walk_verdict c format size short start r e.legal e.eight (b ∙ ap (λ (h : Head). begun h.format h.count size short) e.is) m

  module _ (size : ℕ) (start : Walk) (r : Result Walk Error) (b : start ≡ begun own.format 0 size size) (m : r ≡ walked AnyState size start (stages_of c)) where
    found : walked AnyState size (begun c.format 0 size size) (stages_of c) ≡ r
    found = sym (m ∙ ap (λ (x : Walk). walked AnyState size x (stages_of c)) (b ∙ ap (λ (f : PcmFormat). begun f 0 size size) format_is))

    pub figure_at : (w : Walk) (v : Verdict) → r ≡ Ok w → v ≡ size_verdict own.format size → scratch_answer v (2 * w.largest) ≡ scratch_bytes c size
    figure_at w v k s =
        ap (λ (x : Verdict). scratch_answer x (2 * w.largest)) (s ∙ ap (λ (f : PcmFormat). size_verdict f size) format_is)
        ∙ scratch_walked c size e.legal w (found ∙ k)

    pub unsuited_at : (x : Error) → r ≡ Err x → Err x ≡ scratch_bytes c size
    unsuited_at x k = scratch_unsuited c size e.legal x (found ∙ k)

-- ---- no head is refused with 1
module _ (c : Pipeline) (x : Error) (h : Err x ≡ head_of c) where
  pub verdict_headless : (format : PcmFormat) (size short : ℕ) → block_verdict c format size short ≡ Err x
  verdict_headless format size short = head_refused c format size short (headless c x h).1 ∙ sym (ap (λ (y : Error). let v : Verdict = Err y in v) (headless c x h).0)

  pub scratch_headless : (size : ℕ) → Err x ≡ scratch_bytes c size
  scratch_headless size = ap (λ (y : Error). let v : Result ℕ Error = Err y in v) (headless c x h).0 ∙ scratch_refused c size (headless c x h).1
