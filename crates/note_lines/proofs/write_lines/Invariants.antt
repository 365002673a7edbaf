use Rattle.std.proofs.Common.{◌≡◌, ◌+◌, length}
use Rattle.std.proofs.lemmas.List.Edits.{sets}
use Rattle.recipe.specs.Records.{records, WholeRecords}
use Rattle.note_lines.specs.Lines.{lines_of}
use Rattle.note_lines.specs.laws.Lines.{record_lines}
use Rattle.note_lines.proofs.write_lines.Given as goal

abbrev pub invariant-loop-left : goal.invariant-loop-left
invariant-loop-left l =
    let left = records l.left-iterator.left.now in
    let lines = record_lines left in
    record {
      can : (goal.iterator-loop-left).can_next l.left-iterator;
      ends : (goal.iterator-loop-left).is_finite l.left-iterator;
      whole : WholeRecords left;
      total : l.to + length lines ≡ length (lines_of l.recipe);
      stored : sets l.out l.to lines ≡ sets l.initial.out 0 (lines_of l.recipe);
    }
