-- The lines of the records that are left make up the total.
use Rattle.std.proofs.Common.{ap, arith, length}
use Rattle.note_lines.specs.laws.Lines.{lines_are, lines_fit}
use Rattle.note_lines.proofs.Walk.{none_left, next_whole, later_whole, total_taken}
use Rattle.note_lines.proofs.lines_size.Goals as goal

pub loop-left-init : goal.loop-left-init
loop-left-init c =
    let e = c.into_iter-left-iterator.ensures.into_iter_gives in
    rw e (record { can = tt; ends = tt; whole = c.requires.0; total = omega (arith, ap length (lines_are c.args.recipe.now)) })

pub line_size-size-requires : goal.line_size-size-requires
line_size-size-requires c = next_whole c.in-Some.ensures.steps c.loop-left.invariant.whole

pub overflow_add-size : goal.overflow_add-size
overflow_add-size c =
    omega (arith, c.line_size-size.ensures, total_taken c.in-Some.ensures.steps, c.loop-left.invariant.total, lines_fit c.args.recipe.now c.requires.0, c.requires.1)

pub loop-left-preserved : goal.loop-left-preserved
loop-left-preserved c =
    let i = c.loop-left.invariant in
    let t = c.in-Some.ensures.steps in
    record { can = tt; ends = tt; whole = later_whole t i.whole; total = omega (arith, c.line_size-size.ensures, total_taken t, i.total) }

pub returns : goal.returns
returns c = omega (arith, ap length (none_left c.in-None.ensures.steps.0), c.loop-left.invariant.total)
