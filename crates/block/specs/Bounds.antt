-- The parts of a chain that is `legal`. Assumes nothing.
use Rattle.std.specs.Prelude.{◌≡◌, true, ◌≤◌, ◌<◌}
use Rattle.pipeline.specs.declared.Pipeline.{Pipeline}
use Rattle.block.specs.BlockCall.{suited}
use Rattle.pipeline.specs.WritingBack.{stages_of}

-- ---- a chain that a call returned
pub record Legal (c : Pipeline) : Type 0 where
  pub few : c.count ≤ 8
  pub rate : (0 < c.format.rate) × (c.format.rate ≤ 384000)
  pub channels : (0 < c.format.channels) × (c.format.channels ≤ 2)
  pub suit : suited c.format (stages_of c) ≡ true
