-- `block::play` meets its contract. Assumes nothing.
use Rattle.std.proofs.Common.{arith, ◌≤◌, ◌<◌, ℕ, List}
use Rattle.pcm.specs.Samples.{Bytes}
use Rattle.pcm.specs.declared.PcmFormat.{PcmFormat}
use Rattle.pcm.specs.laws.Samples.{all_by_index}
use Rattle.pipeline.specs.declared.Pipeline.{Pipeline}
use Rattle.turns.specs.Turns.{Halves, halves}
use Rattle.chains.specs.declared.Head.{Head}
use Rattle.block.specs.BlockCall.{shorter}
use Rattle.block.specs.laws.Stages.{stage_after, stage_last}
use Rattle.block.proofs.Playing.{copy_fits, plays_begin, plays_end, few_then, few_held, in_use, asks_at, sum_at, plays_next}
use Rattle.block.proofs.play.Invariants.{Playing}
use Rattle.block.proofs.play.Goals.{else-loop-i-test, then-loop-i-test+then-len-eq0}
use Rattle.block.proofs.play.Goals as goal

pub copy_unstaged-requires : goal.copy_unstaged-requires
copy_unstaged-requires g c = copy_fits _ _ c.requires.head _ _ _ c.requires.accepts

-- ---- where the loop begins
pub loop-i-init : goal.loop-i-init
loop-i-init g c =
    let bytes : Bytes c.args.block.now = all_by_index (λ (x : ℕ). x < 256) 0 c.args.block.now (λ i h. (c.type_inv.block i).fits) in
    record {
      plays = plays_begin _ _ c.requires.head _ _ _ c.requires.accepts bytes _ c.copy_unstaged.ensures;
      rest = g.met.C.Chain.stays_same _;
    }

-- ---- one stage
pub stage-s-requires : goal.stage-s-requires
stage-s-requires g c = in_use _ _ c.requires.head _ _ _ _ _ _ _ _ _ c.loop-i.invariant.plays c.loop-i-test.true

pub turn-t-requires : goal.turn-t-requires
turn-t-requires g c = asks_at _ _ c.requires.head _ _ _ _ _ _ _ _ _ c.loop-i.invariant.plays c.loop-i-test.true _ c.stage-s.ensures

pub hold-requires-clause-used : goal.hold-requires-clause-used
hold-requires-clause-used g c = in_use _ _ c.requires.head _ _ _ _ _ _ _ _ _ c.loop-i.invariant.plays c.loop-i-test.true

pub overflow_add-clipped : goal.overflow_add-clipped
overflow_add-clipped g c = record { fits = omega (arith, sum_at _ _ c.requires.head _ _ _ _ _ _ _ _ _ c.loop-i.invariant.plays c.loop-i-test.true _ c.stage-s.ensures c.turn-t.ensures.does.holds) }

pub loop-i-preserved : goal.loop-i-preserved
loop-i-preserved g c = record {
  plays = plays_next _ _ c.requires.head _ _ _ _ _ _ _ _ _ c.loop-i.invariant.plays c.loop-i-test.true _ c.stage-s.ensures _ _ _ _ _ c.turn-t.ensures c.format_after-reaching.ensures
      _ c.hold.ensures.is _ (stage_after c.loop-i.i c.args.own.count c.turn-t.result.len c.if-len-eq0.false);
  rest = g.met.C.Chain.stays_on _ _ _ c.loop-i.invariant.rest c.hold.ensures.rest;
}

-- ---- past the last stage that was run
record Over {C : Type 0} (chain : C → Pipeline) (Stays : C → C → Type 0) (old : C) (own : Head) (block : List ℕ) (before : Halves) (short : ℕ)
    (now : C) (f : PcmFormat) (n : ℕ) (h : Halves) (clipped : ℕ) : Type 0 where
  last : ℕ
  playing : Playing chain Stays old own block before short now f n last h clipped
  over : own.count ≤ last

over_at : (g : _) (c : goal.After-answered g)
    → Over g.C.Chain.chain g.C.Chain.stays c.args.chain.now c.args.own c.args.block.now (halves c.copy_unstaged.new.a c.args.b.now) (shorter c.copy_unstaged.new.a c.args.b.now)
    c.loop-i-test.chain c.loop-i-test.reaching c.loop-i-test.len (halves c.loop-i-test.a c.loop-i-test.b) c.loop-i-test.clipped
over_at g c =
    elim c.loop-i-test.branch [
      | else-loop-i-test w ↦ rw (w.chain-is, w.a-is, w.b-is, w.reaching-is, w.len-is, w.clipped-is) (record { last = c.loop-i.i; playing = c.loop-i.invariant; over = omega (arith, w.loop-i-test.false) })
      | then-loop-i-test+then-len-eq0 w ↦
          rw (w.chain-is, w.a-is, w.b-is, w.reaching-is, w.len-is, w.clipped-is) (record {
            last = c.args.own.count;
            playing = record {
              plays = plays_next _ _ c.requires.head _ _ _ _ _ _ _ _ _ c.loop-i.invariant.plays w.loop-i-test.true _ w.stage-s.ensures _ _ _ _ _ w.turn-t.ensures w.format_after-reaching.ensures
                  _ w.hold.ensures.is _ (stage_last c.loop-i.i c.args.own.count w.turn-t.result.len w.if-len-eq0.true);
              rest = g.met.C.Chain.stays_on _ _ _ c.loop-i.invariant.rest w.hold.ensures.rest;
            };
            over = omega arith;
          })
    ]

pub count_block-requires : goal.count_block-requires
count_block-requires g c =
    elim c.loop-i-test.branch [
      | else-loop-i-test w ↦ rw w.chain-is (few_then _ _ c.requires.head _ _ _ _ _ _ _ _ _ c.loop-i.invariant.plays)
      | then-loop-i-test+then-len-eq0 w ↦ rw w.chain-is (few_held _ _ c.requires.head _ _ _ _ _ _ _ _ _ c.loop-i.invariant.plays _ _ w.hold.ensures.is)
    ]

pub returns-clause-all : goal.returns-clause-all
returns-clause-all g c =
    let bytes : Bytes c.args.block.now = all_by_index (λ (x : ℕ). x < 256) 0 c.args.block.now (λ i h. (c.type_inv.block i).fits) in
    let o = over_at g c in
    plays_end _ _ c.requires.head _ _ _ c.requires.accepts bytes _ c.copy_unstaged.ensures _ _ _ _ _ _ o.playing.plays o.over c.args.timestamp _ _ c.count_block.ensures.is c.answered.ensures

pub returns-clause-rest : goal.returns-clause-rest
returns-clause-rest g c = g.met.C.Chain.stays_on _ _ _ (over_at g c).playing.rest c.count_block.ensures.rest
