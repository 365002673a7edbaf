-- The bytes of stages' records, one after another (document 01, 'The recipe'). Definitions only.
use Rattle.std.specs.Prelude.{List, [], ◌∷◌, ◌++◌, ℕ}
use Rattle.stage.specs.declared.StageKind.{StageKind}
use Rattle.stage.specs.declared.StageKind.TheVariants as kind
use Rattle.stage.specs.declared.Stage.{Stage}
use Rattle.recipe.specs.declared.Record.{Record}
use Rattle.recipe.specs.declared.Record.TheVariants as rec
use Rattle.recipe.specs.Records.{record_bytes}

-- the record that a stage was opened from
abbrev pub record_of_stage : StageKind → Record
record_of_stage (kind.Gain g) = rec.Gain g.q15
record_of_stage kind.MonoToStereo = rec.MonoToStereo
record_of_stage kind.StereoToMono = rec.StereoToMono
record_of_stage (kind.Resample r) = rec.Resample r.in_rate r.out_rate
record_of_stage (kind.DcBlock b) = rec.DcBlock b.corner
record_of_stage (kind.Biquad b) = rec.Biquad b.rate b.bits

-- records one after another
unfoldable pub recipe_of : List Stage → List ℕ
recipe_of [] = []
recipe_of (s ∷ ss) = record_bytes (record_of_stage s.kind) ++ recipe_of ss
