-- Each block, and then the finish, joins its output on to what came out, or ends the run.
use Rattle.std.proofs.Common.{rules, ◌≡◌, ◌∙◌, refl, ap, arith, ℕ, ◌*◌, ◌<◌, List, [], ◌∷◌, ◌++◌, length, min, Err}
use Rattle.std.proofs.lemmas.List.{nil_from_length}
use Rattle.block.specs.BlockCall.{BlockResult}
use Rattle.finish.specs.FinishCall.{FinishResult}
use Rattle.playing.specs.Playing.{block_bytes, blocks_of, play_call}
use Rattle.playing.specs.Steps.{Joined}
use Rattle.playing.specs.laws.Blocks.{blocks_none, blocks_next}
use Rattle.playing.specs.laws.Formats.{frame_some}
use Rattle.playing.proofs.Joining.{joined_refused, joined_accepted}
use Rattle.playing.proofs.Runs.{runs_start, runs_stopped, runs_onward, runs_end}
use Rattle.playing.proofs.play.Goals as goal

-- a block comes off what is left
block_off : (size n : ℕ) (left block after : List ℕ) → n ≡ size → 0 < n → left ≡ block ++ after → length block ≡ min n (length left) → 0 < length left
    → blocks_of size left ≡ block ∷ blocks_of size after
block_off size n left block after e h parts long some = blocks_next size (rw e at h) left block after parts (rw e at long) some

none_off : (size n : ℕ) (left : List ℕ) → n ≡ size → 0 < n → length left ≡ 0 → blocks_of size left ≡ []
none_off size n left e h none = rw (nil_from_length left none) (blocks_none size (rw e at h))

pub loop-block-init : goal.loop-block-init
loop-block-init c =
    let a = c.args in
    let size = ap (λ (n : ℕ). 1024 * n) c.frame_bytes-size.ensures in
    rw (c.into_iter-block-iterator.ensures.into_iter_gives, c.chunks-block-items.ensures.rest, c.chunks-block-items.ensures.size)
    (record { can = omega (arith, frame_some a.format _ c.frame_bytes-size.ensures c.requires); ends = tt; same = size; runs = runs_start a.format a.chain (blocks_of (block_bytes a.format) a.sound.now) a.a.now a.b.now a.out.now })

pub returns-in_err-done : goal.returns-in_err-done
unfolding play_call
returns-in_err-done c =
    let i = c.loop-block.invariant in
    let s = c.in-Some.ensures.steps in
    let r : BlockResult = record { chain = c.process-done.result.chain; answer = c.process-done.result.answer; a = c.process-done.new.a; b = c.process-done.new.b } in
    let j : Joined = record { gathered = Err c.in_err-done.field-0.0; out = c.loop-block.out } in
    let e : c.from_residual.result ≡ Err c.in_err-done.field-0.0 = search rules in
    rw e
    (runs_stopped i.runs _ _ (block_off _ _ _ _ _ i.same i.can s.1.0 s.1.1 s.1.2) r c.process-done.ensures.all j (joined_refused r.answer r.a r.b c.loop-block.n c.loop-block.out _ c.in_err-done.was) _ refl)

pub returns-in_err-n : goal.returns-in_err-n
unfolding play_call
returns-in_err-n c =
    let i = c.loop-block.invariant in
    let s = c.in-Some.ensures.steps in
    let r : BlockResult = record { chain = c.process-done.result.chain; answer = c.process-done.result.answer; a = c.process-done.new.a; b = c.process-done.new.b } in
    let j : Joined = record { gathered = c.join.result; out = c.join.new.out } in
    let e : c.from_residual-in_err-n.result ≡ Err c.in_err-n.field-0.0 = search rules in
    rw (e, ← c.in_err-n.was)
    (runs_stopped i.runs _ _ (block_off _ _ _ _ _ i.same i.can s.1.0 s.1.1 s.1.2) r c.process-done.ensures.all j (joined_accepted r.answer r.a r.b c.loop-block.n c.loop-block.out _ c.in_ok-done.was _ c.output.ensures j c.join.ensures) _ c.in_err-n.was)

pub loop-block-preserved : goal.loop-block-preserved
loop-block-preserved c =
    let i = c.loop-block.invariant in
    let s = c.in-Some.ensures.steps in
    let r : BlockResult = record { chain = c.process-done.result.chain; answer = c.process-done.result.answer; a = c.process-done.new.a; b = c.process-done.new.b } in
    let j : Joined = record { gathered = c.join.result; out = c.join.new.out } in
    record {
      can = omega (arith, s.0, i.can);
      ends = tt;
      same = s.0 ∙ i.same;
      runs = runs_onward i.runs _ _ (block_off _ _ _ _ _ i.same i.can s.1.0 s.1.1 s.1.2) r c.process-done.ensures.all j (joined_accepted r.answer r.a r.b c.loop-block.n c.loop-block.out _ c.in_ok-done.was _ c.output.ensures j c.join.ensures) _ c.in_ok-n.was;
    }

pub returns-in_err-last : goal.returns-in_err-last
unfolding play_call
returns-in_err-last c =
    let i = c.loop-block.invariant in
    let r : FinishResult = record { chain = c.finish-last.result.chain; answer = c.finish-last.result.answer; a = c.finish-last.new.a; b = c.finish-last.new.b } in
    let j : Joined = record { gathered = Err c.in_err-last.field-0.0; out = c.loop-block.out } in
    let e : c.from_residual-in_err-last.result ≡ Err c.in_err-last.field-0.0 = search rules in
    rw e (runs_end i.runs (none_off _ _ _ i.same i.can c.in-None.ensures.steps.1.0) r c.finish-last.ensures.all j (joined_refused r.answer r.a r.b c.loop-block.n c.loop-block.out _ c.in_err-last.was))

pub returns : goal.returns
unfolding play_call
returns c =
    let i = c.loop-block.invariant in
    let r : FinishResult = record { chain = c.finish-last.result.chain; answer = c.finish-last.result.answer; a = c.finish-last.new.a; b = c.finish-last.new.b } in
    let j : Joined = record { gathered = c.join-2.result; out = c.join-2.new.out } in
    runs_end i.runs (none_off _ _ _ i.same i.can c.in-None.ensures.steps.1.0) r c.finish-last.ensures.all j (joined_accepted r.answer r.a r.b c.loop-block.n c.loop-block.out _ c.in_ok-last.was _ c.output-2.ensures j c.join-2.ensures)
