-- Where the stages played so far have left the chain and the halves. Assumes nothing.
use Rattle.std.proofs.Common.{List, ℕ}
use Rattle.pcm.specs.declared.PcmFormat.{PcmFormat}
use Rattle.pipeline.specs.declared.Pipeline.{Pipeline}
use Rattle.turns.specs.Turns.{Halves, halves}
use Rattle.block.specs.BlockCall.{shorter}
use Rattle.block.specs.laws.Stages.{Plays}
use Rattle.chains.specs.declared.Head.{Head}
use Rattle.block.proofs.play.Given as goal

pub record Playing {C : Type 0} (chain : C → Pipeline) (Stays : C → C → Type 0) (old : C) (own : Head) (block : List ℕ) (before : Halves) (short : ℕ)
    (now : C) (f : PcmFormat) (n i : ℕ) (h : Halves) (clipped : ℕ) : Type 0 where
  pub plays : Plays (chain old) own.count own.format block before short (chain now) f n i h clipped
  pub rest : Stays old now

abbrev pub invariant-loop-i : goal.invariant-loop-i
invariant-loop-i g l = Playing g.C.Chain.chain g.C.Chain.stays l.initial.chain l.own l.block (halves l.initial.a l.initial.b) (shorter l.initial.a l.initial.b) l.chain l.reaching l.len l.i (halves l.a l.b) l.clipped
