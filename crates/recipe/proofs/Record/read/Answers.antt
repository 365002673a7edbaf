-- A stage's record is of the kind that was read.
use Rattle.recipe.proofs.Entries.{stage_read}
use Rattle.recipe.proofs.Record.read.Goals as goal

pub returns-in-Some : goal.returns-in-Some
returns-in-Some c =
    stage_read c.in-Some.kind c.args.left.now (rw c.in-Some.is at c.in_ok-kind.ensures.1) c.of_kind.result c.in_ok-kind.ensures.0 c.of_kind.ensures
