use Rattle.std.proofs.Common.{◌≡◌, ℕ, ◌+◌, ◌*◌, ◌<◌, true}
use Rattle.recipe.specs.Records.{of_stage}
use Rattle.stage_words.specs.Layout.{word}
use Rattle.chain_words.proofs.kinds_known.Given as goal

abbrev pub invariant-loop-i : goal.invariant-loop-i
invariant-loop-i l = (k : ℕ) → k < l.i → of_stage (word l.w (8 + 18 * k)) ≡ true
