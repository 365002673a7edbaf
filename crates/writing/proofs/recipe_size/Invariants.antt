use Rattle.std.proofs.Common.{◌≡◌, ◌≤◌, ◌*◌, length, take}
use Rattle.writing.specs.WritingBack.{recipe_of}
use Rattle.writing.proofs.recipe_size.Given as goal

abbrev pub invariant-loop-s : goal.invariant-loop-s
invariant-loop-s l = (l.size ≤ 28 * l.s-index) × (l.size ≡ length (recipe_of (take l.s-index l.stages)))
