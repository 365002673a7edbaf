use Rattle.std.proofs.Common.{arith}
use Rattle.std.proofs.lemmas.List.FromFn.{fill_by_all}
use Rattle.stage.specs.Places.{no_stage}
use Rattle.chain_words.specs.Layout.{stage_at, chain_at}
use Rattle.chain_words.proofs.stages_of.Goals as goal

pub returns : goal.returns
unfolding chain_at
returns c =
    let v = c.loop-i.invariant in
    fill_by_all (λ k. stage_at c.args.w.now k) c.loop-i.stages 8 no_stage v.0 (λ k h. v.1 k (omega arith))
