use Rattle.std.proofs.Common.{◌≡◌, take}
use Rattle.std.proofs.lemmas.List.Edits.{sets}
use Rattle.pcm.specs.Samples.{All}
use Rattle.stage_words.specs.Storable.{HeldStage}
use Rattle.chain_words.specs.Layout.{stages_words}
use Rattle.chain_words.proofs.put_chain.Given as goal

abbrev pub invariant-loop-i : goal.invariant-loop-i
invariant-loop-i l = (l.w ≡ sets l.initial.w 8 (stages_words (take l.i l.s-items))) × All HeldStage (take l.i l.s-items)
