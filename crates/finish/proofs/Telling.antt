-- Number and values of a finish, from the call that it is the answer of. Assumes nothing.
use Rattle.std.specs.Prelude.{Ok, Err}
use Rattle.pcm.specs.Refusals.{Verdict}
use mathlib.Core.Path.{◌≡◌, refl, ap, ◌∙◌}
use mathlib.Core.Bool.{Bool, true, false, cond}
use mathlib.Core.List.{List}
use Prim.Native.Nat.{ℕ}
use lib.Dec.{eqb}
use Rattle.pcm.specs.declared.PcmFormat.{PcmFormat}
use Rattle.pipeline.specs.declared.Pipeline.{Pipeline}
use Rattle.pipeline.specs.Reset.{format_leaving}
use Rattle.pipeline.specs.WritingBack.{stages_of}
use Rattle.turns.specs.Turns.{halves}
use Rattle.answers.specs.declared.Answer.TheVariants as answer
use Rattle.answers.specs.Answers.{last_half}
use Rattle.answers.specs.FinishAnswers.{sound_finish_told, silent_finish_told, finish_told}
use Rattle.block.specs.BlockCall.{shorter}
use Rattle.finish.specs.FinishCall.{FinishResult, finish_verdict, finish_bytes, finish_clipped, finished, finish_concluded, finish_call}
use Rattle.finish.specs.Told.{told_of_finish, finish_call_told}

module _ (c : Pipeline) (a b : List ℕ) where
  abbrev leaving : PcmFormat
  leaving = format_leaving c.format (stages_of c)

  nothing_or_sound : (none : Bool) → finish_told (Ok (cond none (answer.NothingYet (finish_clipped c)) (answer.Output leaving tt (last_half c.count) (finish_bytes c) (finish_clipped c))))
      ≡ cond none (silent_finish_told 0 0 2 (finish_clipped c)) (sound_finish_told leaving (last_half c.count) (finish_bytes c) (finish_clipped c))
  nothing_or_sound true = refl
  nothing_or_sound false = refl

  told_by : (v : Verdict) → finish_told (finish_concluded v c (halves a b)).answer ≡ told_of_finish v leaving (last_half c.count) (finish_bytes c) (finish_clipped c)
  unfolding finished
  told_by (Ok _) = nothing_or_sound (eqb (finish_bytes c) 0)
  told_by (Err e) = refl

  pub with_told : (r : FinishResult) → r ≡ finish_call c a b → finish_told r.answer ≡ finish_call_told c a b
  unfolding finish_call
  with_told r e = ap (λ (x : FinishResult). finish_told x.answer) e ∙ told_by (finish_verdict c (shorter a b))
