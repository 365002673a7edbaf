use Rattle.std.proofs.Common.{◌≡◌, [], length}
use Rattle.std.specs.Slice.Iter.{chunks_rest, chunks_size}
use Rattle.playing.specs.Playing.{block_bytes, blocks_of, play_blocks}
use Rattle.playing.proofs.Joining.{playing}
use Rattle.playing.proofs.Runs.{Runs}
use Rattle.playing.proofs.play.Given as goal

abbrev pub invariant-loop-block : goal.invariant-loop-block
invariant-loop-block l =
    let f = l.format in
    let size = block_bytes f in
    record {
      can : (goal.iterator-loop-block).can_next l.block-iterator;
      ends : (goal.iterator-loop-block).is_finite l.block-iterator;
      same : chunks_size l.block-iterator ≡ size;
      runs : Runs (play_blocks (length l.fn.out) f (blocks_of size l.sound) (playing l.fn.chain l.fn.a l.fn.b [])) f l.fn.out l.chain l.n (blocks_of size (chunks_rest l.block-iterator)) l.a l.b l.out;
    }
