use Rattle.std.proofs.Common.{◌≡◌, ℕ, ◌+◌, ◌*◌, length, sym, ap, ◌∙◌, arith}
use Rattle.std.proofs.lemmas.List.Edits.{sets}
use Rattle.words.specs.laws.Runs.{sets_append}
use Rattle.stage_words.specs.Layout.{filter_words, state_words, memory_words}
use Rattle.chain_words.proofs.put_memory_at.Goals as goal

pub returns : goal.returns
unfolding memory_words filter_words
returns c =
    let m = c.args.m in
    let p = 8 + 18 * c.args.i + 7 in
    let f = filter_words m.filter in
    let s = state_words m.resampler in
    let e : p + length f ≡ 8 + 18 * c.args.i + 15 = omega arith in (
      c.put_state_at.ensures.0 ∙ ap (λ x. sets x (8 + 18 * c.args.i + 15) s) c.put_filter_at.ensures.0 ∙ sym (sets_append f s c.args.w.now p ∙ ap (λ (n : ℕ). sets (sets c.args.w.now p f) n s) e),
      c.put_filter_at.ensures.1,
      c.put_state_at.ensures.1,
    )
