use Rattle.std.proofs.Common.{◌≡◌, ◌+◌, ◌-◌, ◌*◌, refl, arith}
use Rattle.stage_words.specs.Layout.{state_words}
use Rattle.chain_words.proofs.Parts.{run_copied}
use Rattle.chain_words.proofs.put_state_at.Goals as goal

pub returns : goal.returns
unfolding state_words
returns c =
    let p = 8 + 18 * c.args.i + 15 in
    let n : p + 3 - p ≡ 3 = omega arith in
    (rw (n, c.copy_from_slice.ensures.after, c.state_words.ensures.0) (run_copied (state_words c.args.s) c.args.w.now p 3 refl (omega arith)), c.state_words.ensures.1)
