-- The finish call, by its verdict. Assumes nothing.
use Rattle.std.specs.Prelude.{◌≡◌, List, ℕ, Ok, Err}
use Rattle.std.proofs.Common.{sym, ap, ◌∙◌}
use Rattle.pcm.specs.Refusals.{Verdict}
use Rattle.pcm.specs.declared.Error.{Error}
use Rattle.pcm.specs.declared.Error.TheVariants.{InvalidFormat}
use Rattle.pcm.specs.laws.Refusals.{ask_yes}
use Rattle.pipeline.specs.declared.Pipeline.{Pipeline}
use Rattle.turns.specs.Turns.{halves}
use Rattle.block.specs.BlockCall.{legal, shorter}
use Rattle.finish.specs.FinishCall.{finish_verdict, finished, finish_concluded, finish_call}
use Rattle.finish.specs.Turns.{Finishes}

module _ (c : Pipeline) (a b : List ℕ) (short : ℕ) (v : Verdict) (hs : short ≡ shorter a b) (h : v ≡ finish_verdict c short) where
  asked : finish_verdict c (shorter a b) ≡ v
  asked = ap (finish_verdict c) (sym hs) ∙ sym h

  pub refused_call : (e : Error) → v ≡ Err e → record { chain = c; answer = Err e; a = a; b = b } ≡ finish_call c a b
  unfolding finish_call
  refused_call e k = sym (ap (λ (v : Verdict). finish_concluded v c (halves a b)) (asked ∙ k))

  pub accepted_call : v ≡ Ok tt → finished c (halves a b) ≡ finish_call c a b
  unfolding finish_call
  accepted_call k = sym (ap (λ (v : Verdict). finish_concluded v c (halves a b)) (asked ∙ k))

  pub finishes : v ≡ Ok tt → Finishes c a b
  unfolding finish_verdict
  finishes k = let p = ask_yes (legal c) InvalidFormat _ (asked ∙ k) in record { chain = p.0; room = p.1 }
