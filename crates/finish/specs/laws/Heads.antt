-- What the questions of a finish find of a chain that answered its head, and of one that did not. Assumes nothing.
use Rattle.std.specs.Prelude.{◌≡◌, ℕ, Err, Result}
use Rattle.std.proofs.Common.{ap, ◌∙◌}
use Rattle.pcm.specs.declared.Error.{Error}
use Rattle.pcm.specs.Refusals.{Verdict}
use Rattle.pipeline.specs.declared.Pipeline.{Pipeline}
use Rattle.pipeline.specs.WritingBack.{stages_of}
use Rattle.questions.specs.declared.Question.TheVariants.{Finish}
use Rattle.questions.specs.declared.Walk.{Walk}
use Rattle.questions.specs.Walk.{begun, walked}
use Rattle.chains.specs.declared.Head.{Head}
use Rattle.chains.specs.Chains.{head_of, Headed}
use Rattle.chains.specs.laws.Heads.{headless}
use Rattle.finish.specs.FinishCall.{finish_verdict}
use Rattle.finish.specs.Turns.{end_from}
use Rattle.finish.specs.laws.Stepping.{head_refused, end_is}

-- what the walk comes to
pub end_at : (c : Pipeline) (own : Head) → Headed c own → (shorter : ℕ) (start : Walk) (r : Result Walk Error) → start ≡ begun own.format own.count 0 shorter → r ≡ walked Finish shorter start (stages_of c)
    → end_from r ≡ finish_verdict c shorter
end_at c own e shorter start r b m =
    ap end_from (m ∙ ap (λ (x : Walk). walked Finish shorter x (stages_of c)) (b ∙ ap (λ (h : Head). begun h.format h.count 0 shorter) e.is))
    ∙ end_is c shorter e.legal

-- no head is refused with 1
pub end_headless : (c : Pipeline) (x : Error) → Err x ≡ head_of c → (shorter : ℕ) → Err x ≡ finish_verdict c shorter
end_headless c x h shorter = ap (λ (y : Error). let v : Verdict = Err y in v) (headless c x h).0 ∙ head_refused c shorter (headless c x h).1
