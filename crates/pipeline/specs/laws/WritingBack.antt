-- What a call that writes bytes comes to: its outcome by the verdict, and number and values with it. Assumes nothing.
use Rattle.pcm.specs.declared.Error.{Error}
use Rattle.pcm.specs.Refusals.{Verdict}
use Rattle.std.specs.Prelude.{◌≡◌, refl, List, ℕ, length, Ok, Err, Result}
use Rattle.std.proofs.Common.{ap, ◌∙◌}
use Rattle.pcm.specs.Frames.{written}
use Rattle.pipeline.specs.WritingBack.{WriteOutcome, write_outcome, write_told, told_of_writing}

module _ (v : Verdict) (bytes out : List ℕ) where
  -- what the contract promises of an answer and the buffer afterwards
  abbrev pub Promised : (Result ℕ Error) → List ℕ → Type 0
  Promised answer after =
      (let r : WriteOutcome = record { answer = answer; out = after } in r ≡ write_outcome v bytes out)
      × (write_told answer ≡ told_of_writing v (length bytes))

  told_by : (w : Verdict) → write_told (write_outcome w bytes out).answer ≡ told_of_writing w (length bytes)
  told_by (Ok _) = refl
  told_by (Err e) = refl

  pub concluded : (answer : (Result ℕ Error)) (after : List ℕ) (w : Verdict) → v ≡ w → (let r : WriteOutcome = record { answer = answer; out = after } in r ≡ write_outcome w bytes out) → Promised answer after
  concluded answer after w h e = rw h (e, ap (λ (r : WriteOutcome). write_told r.answer) e ∙ told_by w)

  pub wrote : (n : ℕ) (after : List ℕ) → n ≡ length bytes → after ≡ written bytes out → v ≡ Ok tt → Promised (Ok n) after
  wrote n after e w h = concluded (Ok n) after (Ok tt) h (rw (e, w))
