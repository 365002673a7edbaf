-- Number and values of an answer, from the call that it is the answer of. Assumes nothing.
use Rattle.pcm.specs.declared.Error.{Error}
use Rattle.std.specs.Prelude.{Ok, Err, Result}
use mathlib.Core.Path.{◌≡◌, refl, ap, ◌∙◌}
use mathlib.Core.Bool.{Bool, true, false, cond}
use mathlib.Core.List.{List}
use Prim.Native.Nat.{ℕ}
use lib.Dec.{eqb}
use lib.ListN.{length}
use Rattle.pcm.specs.declared.PcmFormat.{PcmFormat}
use Rattle.pcm.specs.Refusals.{valued, Verdict}
use Rattle.pipeline.specs.declared.Pipeline.{Pipeline}
use Rattle.pipeline.specs.Reset.{format_leaving}
use Rattle.pipeline.specs.WritingBack.{stages_of}
use Rattle.turns.specs.Turns.{halves}
use Rattle.answers.specs.declared.Answer.TheVariants as answer
use Rattle.block.specs.BlockCall.{BlockResult, size_asked, block_verdict, shorter, output_bytes, block_clipped, accepted, concluded, block_call, scratch_answer, scratch_figure, scratch_bytes}
use Rattle.answers.specs.Answers.{last_half, sound_told, silent_told, answer_told, scratch_told}
use Rattle.block.specs.Told.{told_of_block, block_told}

module _ (c : Pipeline) (format : PcmFormat) (t : ℕ) (block a b : List ℕ) where
  abbrev leaving : PcmFormat
  leaving = format_leaving c.format (stages_of c)

  abbrev len : ℕ
  len = output_bytes c block

  abbrev held : ℕ
  held = block_clipped c block

  nothing_or_sound : (none : Bool) → answer_told (Ok (cond none (answer.NothingYet held) (answer.Output leaving t (last_half c.count) len held))) ≡ cond none (silent_told 0 0 2 held) (sound_told leaving t (last_half c.count) len held)
  nothing_or_sound true = refl
  nothing_or_sound false = refl

  told_by : (v : Verdict) → answer_told (concluded v c t block (halves a b)).answer ≡ told_of_block v leaving t (last_half c.count) len held
  unfolding accepted
  told_by (Ok _) = nothing_or_sound (eqb len 0)
  told_by (Err e) = refl

  pub with_told : (r : BlockResult) → r ≡ block_call c format t block a b → (r ≡ block_call c format t block a b) × (answer_told r.answer ≡ block_told c format t block a b)
  unfolding block_call
  with_told r e = (e, ap (λ (x : BlockResult). answer_told x.answer) e ∙ told_by (block_verdict c format (length block) (shorter a b)))

valued_by : (v : Verdict) (n : ℕ) → scratch_told (scratch_answer v n) ≡ valued v n
valued_by (Ok _) n = refl
valued_by (Err e) n = refl

pub with_value : (c : Pipeline) (size : ℕ) (r : (Result ℕ Error)) → r ≡ scratch_bytes c size → (r ≡ scratch_bytes c size) × (scratch_told r ≡ valued (size_asked c size (Ok tt)) (scratch_figure c size))
unfolding scratch_bytes
with_value c size r e = (e, ap scratch_told e ∙ valued_by (size_asked c size (Ok tt)) (scratch_figure c size))
