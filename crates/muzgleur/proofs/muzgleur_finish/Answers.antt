use Rattle.std.proofs.Common.{◌≡◌, sym, ap, ◌∙◌, ℕ, length}
use Rattle.pipeline.specs.declared.Pipeline.{Pipeline}
use Rattle.answers.specs.declared.FinishTold.{FinishTold}
use Rattle.finish.specs.FinishCall.{finish_call}
use Rattle.chain_words.specs.Layout.{chain_of_words}
use Rattle.muzgleur.specs.Results.{FinishOutcome, finish_outcome, finish_words}
use Rattle.muzgleur.proofs.Answered.{few_finish, by_answer, finish_left}
use Rattle.muzgleur.proofs.Cut.{long, chain_is, unchanged, left_chain, left_sound, sound_long}
use Rattle.muzgleur.proofs.muzgleur_finish.Goals as goal

pub returns-in_default-clause-all : goal.returns-in_default-clause-all
returns-in_default-clause-all c = few_finish _ c.in_default.ensures.cases _ _ _ c.from.ensures

pub returns-clause-all : goal.returns-clause-all
returns-clause-all c =
    let e = c.in-Some.ensures.cases in
    let y = c.call.new.chain in
    let n : length y ≡ 152 = by_answer _ _ _ _ c.call.ensures.cleared c.call.ensures.refused (sound_long _ _ e y) (λ q. ap length q ∙ long _ _ e) in
    ap (λ (d : Pipeline). let o : FinishOutcome = record { result = c.from-2.result; chain = d; a = c.call.new.a; b = c.call.new.b } in o) (left_chain _ _ e y n)
    ∙ ap (λ (x : FinishTold). let o : FinishOutcome = record { result = x; chain = chain_of_words y; a = c.call.new.a; b = c.call.new.b } in o) c.from-2.ensures
    ∙ ap finish_outcome (c.call.ensures.all ∙ ap (λ (d : Pipeline). finish_call d c.args.a.now c.args.b.now) (sym (chain_is _ _ e)))

pub returns-clause-words : goal.returns-clause-words
returns-clause-words c =
    let e = c.in-Some.ensures.cases in
    let w = c.args.chain.now in
    finish_left _ w _ _ _ c.call.ensures.cleared c.call.ensures.refused (left_sound _ _ e c.call.new.chain) (unchanged _ _ e c.call.new.chain)
    ∙ ap (λ (n : ℕ). finish_words n w) (sym (ap (λ (x : FinishTold). x.outcome) c.from-2.ensures))
