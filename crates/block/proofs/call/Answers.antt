-- `block::call` meets its contract: THE BLOCK CALL. Assumes nothing.
use Rattle.std.proofs.Common.{rules, ◌≡◌, refl, sym, ap, ◌∙◌, List, ℕ, length, Err}
use Rattle.pcm.specs.declared.PcmFormat.{PcmFormat}
use Rattle.pcm.specs.Refusals.{Verdict}
use Rattle.pipeline.specs.declared.Pipeline.{Pipeline}
use Rattle.block.specs.BlockCall.{shorter, block_verdict}
use Rattle.block.specs.laws.Steps.{accepts}
use Rattle.block.specs.laws.Concluding.{refused_is, accepted_call}
use Rattle.block.specs.laws.Heads.{verdict_headless}
use Rattle.block.proofs.call.Goals as goal

-- what was asked is the verdict on the block
verdict_is : (c : Pipeline) (format : PcmFormat) (block a b : List ℕ) (short : ℕ) (v w : Verdict) → short ≡ shorter a b → v ≡ block_verdict c format (length block) short → v ≡ w
    → block_verdict c format (length block) (shorter a b) ≡ w
verdict_is c format block a b short v w e k h = sym (k ∙ ap (block_verdict c format (length block)) e) ∙ h

pub returns-in_err-own-clause-all : goal.returns-in_err-own-clause-all
returns-in_err-own-clause-all g c =
    let e : c.from_residual.result ≡ Err c.in_err-own.field-0.0 = search rules in
    refused_is _ _ _ _ _ _ _ _ _ refl e (verdict_headless _ _ (sym c.in_err-own.was ∙ c.head.ensures.is) _ _ _)

pub returns-in_err-asked-clause-all : goal.returns-in_err-asked-clause-all
returns-in_err-asked-clause-all g c =
    let e : c.from_residual-in_err-asked.result ≡ Err c.in_err-asked.field-0.0 = search rules in
    refused_is _ _ _ _ _ _ _ _ _ refl e (verdict_is _ _ c.args.block.now _ _ _ _ _ c.min.ensures c.asked.ensures c.in_err-asked.was)

pub play-requires-clause-accepts : goal.play-requires-clause-accepts
play-requires-clause-accepts g c = accepts _ c.args.format _ _ _ (verdict_is _ _ _ c.args.a.now c.args.b.now _ _ _ c.min.ensures c.asked.ensures c.in_ok-asked.was)

pub returns-clause-all : goal.returns-clause-all
returns-clause-all g c =
    c.play.ensures.all ∙ accepted_call _ c.args.format _ _ _ _ (verdict_is _ _ _ c.args.a.now c.args.b.now _ _ _ c.min.ensures c.asked.ensures c.in_ok-asked.was)
