use Rattle.std.proofs.Common.{◌≡◌, take}
use Rattle.pcm.specs.Samples.{All}
use Rattle.stage_words.specs.Storable.{HeldMemory}
use Rattle.chain_words.specs.Kept.{kept_words}
use Rattle.chain_words.proofs.put_memories.Given as goal

abbrev pub invariant-loop-i : goal.invariant-loop-i
invariant-loop-i l = (l.w ≡ kept_words l.initial.w 0 (take l.i l.stages)) × All HeldMemory (take l.i l.stages)
