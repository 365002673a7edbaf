use Rattle.std.proofs.Common.{sym, ap, ◌∙◌, ◌++◌, drop, ℕ}
use Rattle.pcm.specs.Refusals.{Verdict, number_of}
use Rattle.pipeline.specs.Reset.{reset_call}
use Rattle.chains.specs.Words.{Outcome}
use Rattle.muzgleur.proofs.Answered.{few_reset, few_stays}
use Rattle.muzgleur.proofs.Cut.{chain_is, left_chain, left_reset, reset_long}
use Rattle.muzgleur.proofs.muzgleur_reset.Goals as goal

pub returns-in_default-clause-all : goal.returns-in_default-clause-all
returns-in_default-clause-all c = ap (λ (n : ℕ). let o : Outcome = record { number = n; words = c.args.chain.now } in o) c.number.ensures ∙ few_reset _ c.in_default.ensures.cases

pub returns-in_default-clause-chain : goal.returns-in_default-clause-chain
returns-in_default-clause-chain c = few_stays _ c.in_default.ensures.cases

pub returns-in-Ok-clause-all : goal.returns-in-Ok-clause-all
returns-in-Ok-clause-all c =
    left_reset _ _ c.in-Some.ensures.cases _ _
    (sym (ap (λ (v : Verdict). let o : Outcome = record { number = number_of v; words = c.reset.new.words } in o) c.in-Ok.is) ∙ c.reset.ensures.all)

pub returns-in-Ok-clause-chain : goal.returns-in-Ok-clause-chain
returns-in-Ok-clause-chain c =
    let e = c.in-Some.ensures.cases in
    left_chain _ _ e _ (reset_long _ _ e _ _ c.reset.ensures.all) ∙ c.reset.ensures.chain ∙ ap reset_call (sym (chain_is _ _ e))

pub returns-in-Err-clause-all : goal.returns-in-Err-clause-all
returns-in-Err-clause-all c =
    ap (λ (n : ℕ). let o : Outcome = record { number = n; words = c.reset.new.words ++ drop 152 c.args.chain.now } in o) c.number-in-Err.ensures
    ∙ left_reset _ _ c.in-Some.ensures.cases _ _
    (sym (ap (λ (v : Verdict). let o : Outcome = record { number = number_of v; words = c.reset.new.words } in o) c.in-Err.is) ∙ c.reset.ensures.all)

pub returns-in-Err-clause-chain : goal.returns-in-Err-clause-chain
returns-in-Err-clause-chain c =
    let e = c.in-Some.ensures.cases in
    left_chain _ _ e _ (reset_long _ _ e _ _ c.reset.ensures.all) ∙ c.reset.ensures.chain ∙ ap reset_call (sym (chain_is _ _ e))
