-- Which chains words give back. Definitions only.
use Rattle.std.specs.Prelude.{◌≡◌, ◌≤◌, ◌<◌, length}
use Rattle.pcm.specs.Samples.{All}
use Rattle.pipeline.specs.declared.Pipeline.{Pipeline}
use Rattle.stage_words.specs.Storable.{HeldStage, Small}

pub record Storable (c : Pipeline) : Type 0 where
  pub places : length c.stages ≡ 8
  pub count : c.count ≤ 8
  pub channels : c.format.channels < 65536
  pub held : All HeldStage c.stages
  pub small : All Small c.stages
