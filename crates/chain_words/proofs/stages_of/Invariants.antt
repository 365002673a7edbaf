use Rattle.std.proofs.Common.{◌≡◌, ℕ, ◌<◌, length, get_or}
use Rattle.stage.specs.Places.{no_stage}
use Rattle.chain_words.specs.Layout.{stage_at}
use Rattle.chain_words.proofs.stages_of.Given as goal

abbrev pub invariant-loop-i : goal.invariant-loop-i
invariant-loop-i l = (length l.stages ≡ 8) × ((k : ℕ) → k < l.i → get_or l.stages k no_stage ≡ stage_at l.w k)
