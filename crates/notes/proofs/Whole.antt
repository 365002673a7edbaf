-- In room that is enough the page is written whole: what the call answers, and what then stands at the front. Assumes nothing.
use Rattle.std.specs.Prelude.{Ok, Result}
use Rattle.std.proofs.Common.{◌≡◌, ◌∙◌, ap, sym, arith, ◌≤◌, ◌*◌, length, take, ℕ, List}
use Rattle.std.proofs.Math.Seq.{take-append_seam}
use Rattle.std.proofs.lemmas.List.{length-take}
use Rattle.io.specs.Counts.{IsPrefixLen}
use Rattle.pcm.specs.declared.Error.{Error}
use Rattle.pcm.specs.Frames.{written}
use Rattle.pipeline.specs.WritingBack.{WriteOutcome}
use Rattle.note_lines.specs.Page.{page_of, page_call}
use Rattle.note_lines.specs.Theorems.{page_written}

abbrev outcome : (Result ℕ Error) → List ℕ → WriteOutcome
outcome x out = record { answer = x; out = out }

module _ (rate channels recipe out new : List ℕ) (r : (Result ℕ Error))
    (call : outcome r new ≡ page_call (page_of rate channels recipe) out) (h : 2 * length recipe ≤ length out) (k : 3 ≤ length out) where
  abbrev pub bytes : List ℕ
  bytes = page_of rate channels recipe

  whole : outcome r new ≡ outcome (Ok (length bytes)) (written bytes out)
  whole = call ∙ page_written rate channels recipe out h k

  pub answered : r ≡ Ok (length bytes)
  answered = ap (λ (o : WriteOutcome). o.answer) whole

  pub front : take (length bytes) new ≡ bytes
  unfolding written
  front = ap (λ (o : WriteOutcome). take (length bytes) o.out) whole ∙ take-append_seam bytes _

  pub counted : IsPrefixLen (length bytes) new
  counted =
      let f = ap length front in
      let l = length-take (length bytes) new in
      (omega (arith, f, l), sym f)
