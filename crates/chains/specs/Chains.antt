-- What calls ask and alter of a chain, however it is kept. Definitions only.
use Rattle.std.specs.Prelude.{◌≡◌, true, cond, ◌&&◌, List, ℕ, ◌≤◌, ◌<◌, leb, length, get_or, Ok, Err, Result}
use Rattle.pcm.specs.declared.Error.{Error}
use Rattle.pcm.specs.declared.Error.TheVariants.{InvalidFormat}
use Rattle.pcm.specs.Formats.{format_allowed}
use Rattle.pcm.specs.Frames.{Frame}
use Rattle.stage.specs.declared.Stage.{Stage}
use Rattle.stage.specs.Stages.{stage_next}
use Rattle.stage.specs.Places.{no_stage}
use Rattle.pipeline.specs.declared.Pipeline.{Pipeline}
use Rattle.answers.specs.Answers.{counted_up, counted_if}
use Rattle.chains.specs.declared.Head.{Head}

-- the format and the count of a chain
abbrev pub head_in : Pipeline → Head
head_in c = record { format = c.format; count = c.count }

-- Are the number of stages and the chain's own format within their limits? else 1
abbrev pub head_of : Pipeline → Result Head Error
head_of c = cond (leb c.count 8 && format_allowed c.format) (Ok (head_in c)) (Err InvalidFormat)

-- stage i + 1 is one of at most eight in use
pub record InUse (c : Pipeline) (i : ℕ) : Type 0 where
  pub few : c.count ≤ 8
  pub used : i < c.count

abbrev pub stage_in : Pipeline → ℕ → Stage
stage_in c i = get_or c.stages i no_stage

-- a stage that has taken some frames more
pub record Follows (s next : Stage) : Type 0 where
  pub frames : List Frame
  pub is : next ≡ stage_next s frames

-- a chain with other stages
unfoldable pub with_stages : Pipeline → List Stage → Pipeline
with_stages c stages = record { stages = stages; count = c.count; format = c.format; blocks = c.blocks; empty_blocks = c.empty_blocks }

-- one block more, of which `len` bytes came out
unfoldable pub counted : Pipeline → ℕ → Pipeline
counted c len = record { stages = c.stages; count = c.count; format = c.format; blocks = counted_up c.blocks; empty_blocks = counted_if len c.empty_blocks }

-- a head within its limits, of a chain of eight places
pub record Headed (c : Pipeline) (own : Head) : Type 0 where
  pub is : own ≡ head_in c
  pub legal : leb c.count 8 && format_allowed c.format ≡ true
  pub eight : length c.stages ≡ 8
