-- A chain, and the stages that it was opened with (document 01, 'The recipe'). Definitions only.
use Rattle.std.specs.Prelude.{◌≡◌, true, List, ℕ}
use Rattle.pcm.specs.declared.PcmFormat.{PcmFormat}
use Rattle.pcm.specs.Formats.{format_allowed}
use Rattle.stage.specs.declared.Stage.{Stage}
use Rattle.pipeline.specs.declared.Pipeline.{Pipeline}
use Rattle.pipeline.specs.Opening.{opened, open_stages, chain_of}

-- a chain, and the stages that it was opened with
pub record OpenedFrom (f : PcmFormat) (bytes : List ℕ) (c : Pipeline) : Type 0 where
  pub allowed : format_allowed f ≡ true
  pub stages : List Stage
  pub opens : open_stages 8 f bytes ≡ opened stages
  pub chain_is : c ≡ chain_of f stages
