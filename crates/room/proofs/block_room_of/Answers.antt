-- `room::block_room_of` meets its contract. Assumes nothing.
use Rattle.std.proofs.Common.{rules, ◌≡◌, sym, ap, ◌∙◌, Ok, Err}
use Rattle.pcm.specs.declared.PcmFormat.{PcmFormat}
use Rattle.questions.specs.Walk.{size_verdict}
use Rattle.chains.specs.laws.Heads.{headed}
use Rattle.block.specs.laws.Heads.{own_channels, format_is}
use Rattle.room.specs.Asked.{asked_bytes}
use Rattle.room.specs.laws.Asked.{block_room_is, block_room_sized, block_room_unsuited}
use Rattle.room.proofs.Heads.{block_headless, same_channels}
use Rattle.room.proofs.block_room_of.Goals as goal

pub returns-in_err-own : goal.returns-in_err-own
returns-in_err-own g c =
    let e : c.from_residual.result ≡ Err c.in_err-own.field-0.0 = search rules in
    e ∙ block_headless _ _ (sym c.in_err-own.was ∙ c.head.ensures.is) _

pub asked_bytes-size-requires : goal.asked_bytes-size-requires
asked_bytes-size-requires g c = (own_channels _ _ (headed (g.C.Chain.chain c.args.chain.now) _ (sym c.in_ok-own.was ∙ c.head.ensures.is) c.head.ensures.eight)).1

pub size_question-requires : goal.size_question-requires
size_question-requires g c = (own_channels _ _ (headed (g.C.Chain.chain c.args.chain.now) _ (sym c.in_ok-own.was ∙ c.head.ensures.is) c.head.ensures.eight)).0

pub returns-in_err-walk : goal.returns-in_err-walk
returns-in_err-walk g c =
    let own = headed (g.C.Chain.chain c.args.chain.now) _ (sym c.in_ok-own.was ∙ c.head.ensures.is) c.head.ensures.eight in
    let e : c.from_residual-in_err-walk.result ≡ Err c.in_err-walk.field-0.0 = search rules in
    e ∙ block_room_unsuited _ c.args.frames _ (c.asked_bytes-size.ensures ∙ ap (λ (f : PcmFormat). asked_bytes f c.args.frames) (format_is _ _ own)) _ c.walked.ensures _ c.in_err-walk.was

pub returns-in_err-size_question : goal.returns-in_err-size_question
returns-in_err-size_question g c =
    let own = headed (g.C.Chain.chain c.args.chain.now) _ (sym c.in_ok-own.was ∙ c.head.ensures.is) c.head.ensures.eight in
    let e : c.from_residual-in_err-size_question.result ≡ Err c.in_err-size_question.field-0.0 = search rules in
    e ∙ block_room_sized _ c.args.frames _ (c.asked_bytes-size.ensures ∙ ap (λ (f : PcmFormat). asked_bytes f c.args.frames) (format_is _ _ own)) _ c.walked.ensures _ _ _ (same_channels _ _ own)
    c.in_ok-walk.was (c.size_question.ensures ∙ ap (λ (f : PcmFormat). size_verdict f c.asked_bytes-size.result) (format_is _ _ own)) c.in_err-size_question.was

pub returns : goal.returns
returns g c =
    let own = headed (g.C.Chain.chain c.args.chain.now) _ (sym c.in_ok-own.was ∙ c.head.ensures.is) c.head.ensures.eight in
    ap Ok c.into.ensures
    ∙ block_room_is _ c.args.frames _ (c.asked_bytes-size.ensures ∙ ap (λ (f : PcmFormat). asked_bytes f c.args.frames) (format_is _ _ own)) _ c.walked.ensures _ _ (same_channels _ _ own)
    c.in_ok-walk.was (c.size_question.ensures ∙ ap (λ (f : PcmFormat). size_verdict f c.asked_bytes-size.result) (format_is _ _ own)) c.in_ok-size_question.was
