-- The lines of the records that are left, stored behind those before, are the page.
use Rattle.std.proofs.Common.{◌∙◌, sym, ap, arith, length}
use Rattle.std.proofs.lemmas.List.Edits.{sets}
use Rattle.words.specs.laws.Runs.{sets_append, front_run}
use Rattle.recipe.specs.Records.{records}
use Rattle.note_lines.specs.Lines.{lines_of}
use Rattle.note_lines.specs.laws.Lines.{line_here, record_lines, lines_are}
use Rattle.note_lines.proofs.Walk.{none_left, next_whole, later_whole, lines_taken, total_taken}
use Rattle.note_lines.proofs.write_lines.Goals as goal

pub loop-left-init : goal.loop-left-init
loop-left-init c =
    let e = c.into_iter-left-iterator.ensures.into_iter_gives in
    let lines = lines_are c.args.recipe.now in
    rw e (record { can = tt; ends = tt; whole = c.requires.0; total = omega (arith, ap length lines); stored = ap (sets c.args.out.now 0) (sym lines) })

pub put_record-to-requires : goal.put_record-to-requires
put_record-to-requires c =
    let i = c.loop-left.invariant in
    let t = c.in-Some.ensures.steps in
    (next_whole t i.whole, omega (arith, total_taken t, i.total, c.requires.1))

pub overflow_add-to : goal.overflow_add-to
overflow_add-to c = omega (arith, c.put_record-to.ensures.size, total_taken c.in-Some.ensures.steps, c.loop-left.invariant.total, c.requires.1)

pub loop-left-preserved : goal.loop-left-preserved
loop-left-preserved c =
    let i = c.loop-left.invariant in
    let t = c.in-Some.ensures.steps in
    let lines = record_lines (records c.next.new.self.left.now) in
    record {
      can = tt;
      ends = tt;
      whole = later_whole t i.whole;
      total = omega (arith, c.put_record-to.ensures.size, total_taken t, i.total);
      stored =
          rw (c.put_record-to.ensures.size, c.put_record-to.ensures.stored)
          (sym (sets_append (line_here c.in-Some.left.now) lines c.loop-left.out c.loop-left.to) ∙ ap (sets c.loop-left.out c.loop-left.to) (sym (lines_taken t)) ∙ i.stored);
    }

pub returns : goal.returns
returns c =
    ap (sets c.loop-left.out c.loop-left.to) (sym (none_left c.in-None.ensures.steps.0)) ∙ c.loop-left.invariant.stored
    ∙ front_run (lines_of c.args.recipe.now) c.args.out.now c.requires.1
