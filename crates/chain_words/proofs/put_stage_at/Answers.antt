use Rattle.std.proofs.Common.{◌≡◌, ℕ, ◌+◌, ◌-◌, ◌*◌, length, sym, ap, ◌∙◌, arith}
use Rattle.std.proofs.lemmas.List.Edits.{sets}
use Rattle.words.specs.laws.Runs.{sets_append}
use Rattle.stage_words.specs.Layout.{setting_words, memory_words, words_of_stage}
use Rattle.stage_words.specs.laws.Reading.{length_settings}
use Rattle.chain_words.proofs.Parts.{run_copied}
use Rattle.chain_words.proofs.put_stage_at.Goals as goal

pub returns : goal.returns
unfolding words_of_stage
returns c =
    let w = c.args.w.now in
    let p = 8 + 18 * c.args.i in
    let k = setting_words c.args.s.kind in
    let m = memory_words c.args.s.memory in
    let n = length_settings c.args.s.kind in
    let e : p + length k ≡ p + 7 = omega arith in
    let d : p + 7 - p ≡ 7 = omega arith in (
      c.put_memory_at.ensures.0 ∙ ap (λ x. sets x (p + 7) m) (rw (d, c.copy_from_slice.ensures.after, c.setting_words.ensures.0) (run_copied k w p 7 n (omega arith)))
          ∙ sym (sets_append k m w p ∙ ap (λ (j : ℕ). sets (sets w p k) j m) e),
      record { kind = c.setting_words.ensures.1; filter = c.put_memory_at.ensures.1; last = c.put_memory_at.ensures.2 },
    )
