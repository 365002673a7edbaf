-- The loops' invariants from frame to frame and from sample to sample. Assumes nothing.
use Rattle.std.proofs.Common.{rules, refl, ◌∙◌, ap, arith, ◌≡◌, get_or, w16}
use Rattle.std.specs.Int.{from_bool}
use Rattle.pcm.specs.laws.Integers.{answered}
use Rattle.filters.specs.laws.Filters.{TwoChannels}
use Rattle.filters.proofs.Loop.{none, ticking_start, ticking_sample, ticking_end, filtering_start, filtering_frame, filtering_sample, filtering_fits, filtering_at, filtering_end, next_frame, frame_length, frame_done, next_sample, next_inside, next_taps, taps_done, block_samples}
use Rattle.filters.proofs.frames.Goals as goal

pub loop-k-init : goal.loop-k-init
loop-k-init g c =
    let two : TwoChannels c.args.memory = record { x1 = search rules; x2 = search rules; y1 = search rules; y2 = search rules } in
    rw c.taps-taps.ensures (filtering_start c.requires two)

pub loop-c-init : goal.loop-c-init
loop-c-init g c = ticking_start c.loop-k.invariant.two

pub loop-c-preserved : goal.loop-c-preserved
loop-c-preserved g c =
    ticking_sample c.loop-c.invariant (next_sample c.requires c.loop-k.k c.loop-k-test.true c.loop-c.c c.loop-c-test.true) (omega arith)
    (c.tick.ensures ∙ ap (g.T.Tick.tick c.args.filter.now (get_or c.loop-c.taps c.loop-c.c none)) (answered w16 c.get_i16.type_inv c.get_i16.ensures))

pub loop-c-2-init : goal.loop-c-2-init
loop-c-2-init g c =
    let k = c.loop-k.k in
    let h = c.loop-k-test.true in
    let at_end : c.loop-c.c ≡ g.row.C = omega (arith, c.loop-c.auto.c-end, c.loop-c-test.false) in
    filtering_at
    (filtering_frame c.loop-k.invariant (next_frame c.requires k h) (frame_length c.requires k h)
    (ticking_end c.loop-c.invariant (rw at_end (frame_done c.requires k h))) c.loop-c.invariant.two)
    (omega arith) refl

pub loop-c-2-preserved : goal.loop-c-2-preserved
loop-c-2-preserved g c =
    filtering_at
    (filtering_sample c.loop-c-2.invariant (next_taps g.row.C c.loop-c-2.c c.loop-c.taps c.loop-c-2-test.true (omega (arith, c.loop-c.invariant.two)))
    c.put_i16.ensures
    (answered w16 c.rounded16.type_inv c.rounded16.ensures)
    (c.from-clipped.ensures ∙ ap from_bool c.clipped.ensures)
    (next_inside c.requires c.loop-k.k c.loop-k-test.true c.loop-c-2.c c.loop-c-2-test.true) c.requires.room)
    (omega arith) refl

pub overflow_add-clipped : goal.overflow_add-clipped
overflow_add-clipped g c = record { fits = omega (arith, filtering_fits (loop-c-2-preserved g c), block_samples c.requires) }

pub loop-k-preserved : goal.loop-k-preserved
loop-k-preserved g c =
    let at_end : c.loop-c-2.c ≡ g.row.C = omega (arith, c.loop-c-2.auto.c-end, c.loop-c-2-test.false) in
    filtering_at c.loop-c-2.invariant (rw at_end (omega arith)) (rw at_end (taps_done g.row.C c.loop-c.taps (omega (arith, c.loop-c.invariant.two))))

pub returns : goal.returns
returns g c =
    let two : TwoChannels c.args.memory = record { x1 = search rules; x2 = search rules; y1 = search rules; y2 = search rules } in
    filtering_end c.requires two c.loop-k.invariant (omega arith) c.of_taps.ensures refl
