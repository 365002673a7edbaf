-- The walk over a recipe's records: the lines of those that are left, one taken. Assumes nothing.
use Rattle.std.proofs.Common.{◌≡◌, ap, ◌∙◌, List, [], ◌∷◌, ◌++◌, ℕ, ◌+◌, length, length-append}
use Rattle.recipe.specs.Records.{Whole, WholeRecords}
use Rattle.recipe.specs.laws.Records.{whole_record}
use Rattle.note_lines.specs.laws.Lines.{line_here, record_lines, lines_none, lines_next}

pub none_left : {rs : List (List ℕ)} → rs ≡ [] → record_lines rs ≡ []
none_left e = ap record_lines e ∙ lines_none

-- one was taken
module _ {rs : List (List ℕ)} {left : List ℕ} {later : List (List ℕ)} (e : rs ≡ left ∷ later) where
  pub next_whole : WholeRecords rs → Whole left
  next_whole h = let all : WholeRecords (left ∷ later) = rw e at h in whole_record left all.0

  pub later_whole : WholeRecords rs → WholeRecords later
  later_whole h = let all : WholeRecords (left ∷ later) = rw e at h in all.1

  pub lines_taken : record_lines rs ≡ line_here left ++ record_lines later
  lines_taken = ap record_lines e ∙ lines_next left later

  pub total_taken : length (record_lines rs) ≡ length (line_here left) + length (record_lines later)
  total_taken = ap length lines_taken ∙ length-append (line_here left) (record_lines later)
