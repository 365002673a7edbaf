-- The page goes by the questions' verdict, and is written where there is room.
use Rattle.std.proofs.Common.{rules, ◌≡◌, ◌∙◌, refl, sym, ap, List, ℕ, length, Err}
use Rattle.pcm.specs.declared.PcmFormat.{PcmFormat}
use Rattle.pcm.specs.Frames.{written}
use Rattle.pcm.specs.Refusals.{room_verdict, Verdict}
use Rattle.pcm.specs.laws.Refusals.{room_enough}
use Rattle.pipeline.specs.laws.WritingBack.{concluded, wrote, Promised}
use Rattle.note_lines.specs.Arguments.{format_of}
use Rattle.note_lines.specs.Page.{desk_verdict, printed, page_of, page_call}
use Rattle.note_lines.specs.laws.Page.{desk_readable}
use Rattle.note_lines.proofs.page.Goals as goal

-- the page that goes by the verdict of the format as it was typed
page_is : (rate channels recipe : List ℕ) (f : PcmFormat) (v : Verdict) → f ≡ format_of rate channels → v ≡ desk_verdict f recipe → printed v recipe ≡ page_of rate channels recipe
unfolding page_of
page_is rate channels recipe f v e d = ap (λ (x : Verdict). printed x recipe) (d ∙ ap (λ (x : PcmFormat). desk_verdict x recipe) e)

-- room was asked for its bytes
asked : (shown page : List ℕ) (n room : ℕ) (v : Verdict) → shown ≡ page → n ≡ length shown → v ≡ room_verdict n room → room_verdict (length page) room ≡ v
asked shown page n room v p s e = ap (λ (k : ℕ). room_verdict k room) (sym (s ∙ ap length p)) ∙ sym e

pub page_size-needed-requires : goal.page_size-needed-requires
page_size-needed-requires c = desk_readable _ _ _ c.desk_question-verdict.ensures

pub returns-in_err-require_room : goal.returns-in_err-require_room
unfolding page_call
returns-in_err-require_room c =
    let a = c.args in
    let page = page_of a.rate.now a.channels.now a.recipe.now in
    let p = page_is a.rate.now a.channels.now a.recipe.now _ _ c.format-format.ensures c.desk_question-verdict.ensures in
    let v = asked _ _ _ _ _ p c.page_size-needed.ensures (sym c.in_err-require_room.was ∙ c.require_room.ensures) in
    let e : c.from_residual.result ≡ Err c.in_err-require_room.field-0.0 = search rules in
    let r : Promised (room_verdict (length page) (length a.out.now)) page a.out.now c.from_residual.result a.out.now = rw e (concluded _ page a.out.now (Err c.in_err-require_room.field-0.0) a.out.now (Err _) v refl) in
    record { all = r.0; told = r.1 }

pub write_page-requires : goal.write_page-requires
write_page-requires c =
    (desk_readable _ _ _ c.desk_question-verdict.ensures, room_enough _ _ (asked _ _ _ _ _ refl c.page_size-needed.ensures (sym c.in_ok-require_room.was ∙ c.require_room.ensures)))

pub returns : goal.returns
unfolding page_call
returns c =
    let a = c.args in
    let p = page_is a.rate.now a.channels.now a.recipe.now _ _ c.format-format.ensures c.desk_question-verdict.ensures in
    let stored = c.write_page.ensures ∙ ap (λ (l : List ℕ). written l a.out.now) p in
    let r = wrote _ (page_of a.rate.now a.channels.now a.recipe.now) a.out.now _ _ (c.page_size-needed.ensures ∙ ap length p) stored (asked _ _ _ _ _ p c.page_size-needed.ensures (sym c.in_ok-require_room.was ∙ c.require_room.ensures)) in
    record { all = r.0; told = r.1 }
