-- A chain as opening returns it. Definitions only.
use Rattle.std.specs.Prelude.{◌≡◌, true, List, map, length}
use Rattle.pcm.specs.Samples.{All}
use Rattle.rates.specs.Rates.{reduced}
use Rattle.stage.specs.declared.StageKind.{StageKind}
use Rattle.stage.specs.declared.StageKind.TheVariants as kind
use Rattle.stage.specs.Stages.{kinds_of, stage_clear}
use Rattle.pipeline.specs.declared.Pipeline.{Pipeline}
use Rattle.pipeline.specs.WritingBack.{stages_of}
use Rattle.block.specs.BlockCall.{legal}

-- a resampler's rates are divided by their greatest common divisor
abbrev pub RatesReduced : StageKind → Type 0
RatesReduced (kind.Gain g) = Unit {0}
RatesReduced kind.MonoToStereo = Unit {0}
RatesReduced kind.StereoToMono = Unit {0}
RatesReduced (kind.Resample r) = r ≡ reduced r.in_rate r.out_rate
RatesReduced (kind.DcBlock b) = Unit {0}
RatesReduced (kind.Biquad b) = Unit {0}

-- the kinds of a chain's stages
abbrev pub kinds_in : Pipeline → List StageKind
kinds_in c = kinds_of (stages_of c)

-- one array of eight places, a format and stages that suit one another, and no sound in any stage yet
pub record FreshlyOpened (o : Pipeline) : Type 0 where
  pub places : length o.stages ≡ 8
  pub lawful : legal o ≡ true
  pub silent : stages_of o ≡ map stage_clear (stages_of o)
  pub rates : All RatesReduced (kinds_in o)
