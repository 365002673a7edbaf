use Rattle.std.proofs.Common.{◌≡◌, sym, ap, ◌∙◌, length}
use Rattle.pcm.specs.declared.PcmFormat.{PcmFormat}
use Rattle.pipeline.specs.declared.Pipeline.{Pipeline}
use Rattle.answers.specs.declared.Told.{Told}
use Rattle.block.specs.BlockCall.{block_call}
use Rattle.chain_words.specs.Layout.{chain_of_words}
use Rattle.muzgleur.specs.Results.{BlockOutcome, block_outcome}
use Rattle.muzgleur.proofs.Answered.{few_block, if_refused}
use Rattle.muzgleur.proofs.Cut.{long, chain_is, unchanged, left_chain, left_stays}
use Rattle.muzgleur.proofs.muzgleur_block.Goals as goal

pub returns-in_default-clause-all : goal.returns-in_default-clause-all
returns-in_default-clause-all c = few_block _ c.in_default.ensures.cases _ _ _ _ _ _ c.from.ensures

pub returns-clause-all : goal.returns-clause-all
returns-clause-all c =
    let f : PcmFormat = record { rate = c.args.rate; channels = c.args.channels } in
    let e = c.in-Some.ensures.cases in
    let y = c.call.new.chain in
    let n : length y ≡ 152 = c.call.ensures.rest.long ∙ long _ _ e in
    ap (λ (d : Pipeline). let o : BlockOutcome = record { result = c.from-2.result; chain = d; a = c.call.new.a; b = c.call.new.b } in o) (left_chain _ _ e y n)
    ∙ ap (λ (x : Told). let o : BlockOutcome = record { result = x; chain = chain_of_words y; a = c.call.new.a; b = c.call.new.b } in o) c.from-2.ensures
    ∙ ap block_outcome (c.call.ensures.all ∙ ap (λ (d : Pipeline). block_call d f c.args.timestamp c.args.sound.now c.args.a.now c.args.b.now) (sym (chain_is _ _ e)))

pub returns-clause-words : goal.returns-clause-words
returns-clause-words c =
    let e = c.in-Some.ensures.cases in
    (λ z. unchanged _ _ e _ (if_refused _ _ c.call.ensures.refused (sym (ap (λ (x : Told). x.outcome) c.from-2.ensures) ∙ z)), left_stays _ _ e _ c.call.ensures.rest)
