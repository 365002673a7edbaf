use Rattle.std.proofs.Common.{◌≡◌, ◌+◌, ◌-◌, ◌*◌, refl, arith}
use Rattle.stage_words.specs.Layout.{filter_words}
use Rattle.chain_words.proofs.Parts.{run_copied}
use Rattle.chain_words.proofs.put_filter_at.Goals as goal

pub returns : goal.returns
unfolding filter_words
returns c =
    let p = 8 + 18 * c.args.i + 7 in
    let n : p + 8 - p ≡ 8 = omega arith in
    (rw (n, c.copy_from_slice.ensures.after, c.filter_words.ensures.0) (run_copied (filter_words c.args.m) c.args.w.now p 8 refl (omega arith)), c.filter_words.ensures.1)
