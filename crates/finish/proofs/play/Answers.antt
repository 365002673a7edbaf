-- `finish::play` meets its contract. Assumes nothing.
use Rattle.std.proofs.Common.{◌≡◌, ◌≤◌, length, List, ℕ, arith}
use Rattle.block.specs.BlockCall.{shorter}
use Rattle.block.specs.laws.Reaching.{shorter_a, shorter_b}
use Rattle.finish.proofs.Ending.{ends_begin, asks_at, sum_at, ends_next, ends_finished}
use Rattle.finish.proofs.play.Goals as goal

in_a : (a b a' : List ℕ) → length a' ≡ length a → shorter a b ≤ length a'
in_a a b a' e = omega (arith, shorter_a a b)

in_b : (a b b' : List ℕ) → length b' ≡ length b → shorter a b ≤ length b'
in_b a b b' e = omega (arith, shorter_b a b)

pub loop-i-init : goal.loop-i-init
loop-i-init g c = ends_begin _ _ c.requires.head _ _ c.requires.finishes

pub turn-t-requires : goal.turn-t-requires
turn-t-requires g c =
    let l = c.loop-i in
    let a = in_a c.args.a.now c.args.b.now l.a l.auto.a in
    let b = in_b c.args.a.now c.args.b.now l.b l.auto.b in
    asks_at _ _ c.requires.head _ _ _ _ _ _ _ l.invariant c.loop-i-test.true a b _ c.stage-s.ensures

pub overflow_add-clipped : goal.overflow_add-clipped
overflow_add-clipped g c =
    let l = c.loop-i in
    record {
      fits = omega (
        arith,
        sum_at _ _ c.requires.head _ _ _ _ _ _ _ l.invariant c.loop-i-test.true (in_a c.args.a.now c.args.b.now l.a l.auto.a) (in_b c.args.a.now c.args.b.now l.b l.auto.b) _ c.stage-s.ensures c.turn-t.ensures.holds,
      );
    }

pub loop-i-preserved : goal.loop-i-preserved
loop-i-preserved g c =
    let l = c.loop-i in
    ends_next _ _ c.requires.head _ _ _ _ _ _ _ l.invariant c.loop-i-test.true (in_a c.args.a.now c.args.b.now l.a l.auto.a) (in_b c.args.a.now c.args.b.now l.b l.auto.b) _ c.stage-s.ensures
    _ _ _ _ c.turn-t.ensures c.format_after-format.ensures

pub returns-clause-all : goal.returns-clause-all
returns-clause-all g c = ends_finished _ _ c.requires.head _ _ _ _ _ _ _ c.loop-i.invariant c.loop-i-test.false _ _ c.clear.ensures.is c.answered.ensures
