use Rattle.std.proofs.Common.{◌≡◌, ◌≤◌, drop}
use Rattle.note_lines.specs.Arguments.{number_after}
use Rattle.note_lines.proofs.arguments.number.Given as goal

abbrev pub invariant-loop-b : goal.invariant-loop-b
invariant-loop-b l = (l.value ≤ 0xffffffff) × (number_after 0xffffffff 0 l.text ≡ number_after 0xffffffff l.value (drop l.b-index l.text))
