-- A chain after one call, and the half that the last stage wrote to. Definitions only.
use Rattle.std.specs.Prelude.{◌≡◌, cond, List, ℕ, ◌%◌, eqb, length, drop}
use Rattle.stage.specs.declared.Stage.{Stage}
use Rattle.pipeline.specs.declared.Pipeline.{Pipeline}
use Rattle.answers.specs.declared.Half.{Half}
use Rattle.answers.specs.declared.Half.TheVariants as half
use Rattle.turns.specs.Turns.{Halves}
use Rattle.pipeline.specs.WritingBack.{stages_of}

-- ---- the half that the last stage wrote to holds its bytes
abbrev pub side_of : Half → List ℕ → List ℕ → List ℕ
side_of half.A a b = a
side_of half.B a b = b

abbrev pub side : ℕ → Halves → List ℕ
side i h = cond (eqb (i % 2) 0) h.a h.b

-- ---- a chain after a call: its stages, and the rest of it as it was
pub record Moved (before after : Pipeline) (kept : List Stage) : Type 0 where
  pub stages : stages_of after ≡ kept
  pub count : after.count ≡ before.count
  pub format : after.format ≡ before.format
  pub spare : drop before.count after.stages ≡ drop before.count before.stages
  pub places : length after.stages ≡ 8
