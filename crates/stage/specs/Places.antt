-- The stage that the language reads past the end of an array of stages. Definitions only.
use Rattle.std.specs.Prelude.{false, [], pos}
use Rattle.stage.specs.declared.StageKind.TheVariants as kind
use Rattle.stage.specs.declared.Stage.{Stage}

-- what is read past the end of a list of stages
abbrev pub no_stage : Stage
no_stage = record {
  kind = kind.Gain (record { q15 = pos 0 });
  memory = record {
    filter = record { x1 = []; x2 = []; y1 = []; y2 = [] };
    resampler = record { last = []; phase = 0; primed = false };
  };
}
