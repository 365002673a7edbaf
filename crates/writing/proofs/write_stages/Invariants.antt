use Rattle.std.proofs.Common.{◌≡◌, length, take}
use Rattle.pcm.specs.Frames.{written}
use Rattle.writing.specs.WritingBack.{recipe_of}
use Rattle.writing.proofs.write_stages.Given as goal

abbrev pub invariant-loop-s : goal.invariant-loop-s
invariant-loop-s l = (l.at ≡ length (recipe_of (take l.s-index l.stages))) × (l.out ≡ written (recipe_of (take l.s-index l.stages)) l.initial.out)
