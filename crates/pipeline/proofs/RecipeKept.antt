-- A chain that was opened keeps its recipe, without the notes. Assumes nothing.
use Rattle.std.specs.Prelude.{◌≡◌, List, ℕ, Ok}
use Rattle.std.proofs.Math.Path.{ap}
use Rattle.std.proofs.Common.{◌∙◌}
use Rattle.pcm.specs.declared.PcmFormat.{PcmFormat}
use Rattle.pcm.specs.Samples.{Bytes}
use Rattle.recipe.specs.Records.{records}
use Rattle.recipe.specs.Notes.{without_notes}
use Rattle.recipe.specs.laws.Notes.{records_bytes}
use Rattle.pipeline.specs.declared.Pipeline.{Pipeline}
use Rattle.pipeline.specs.WritingBack.{stages_of}
use Rattle.pipeline.specs.Opening.{open_stages, open_call}
use Rattle.writing.specs.WritingBack.{recipe_of}
use Rattle.pipeline.proofs.laws.RoundTrip.{opened_recipe, opened_stages, opened_from}

module _ (f : PcmFormat) (bytes : List ℕ) (c : Pipeline) (e : open_call f bytes ≡ Ok c) where
  stages_are : stages_of c ≡ (opened_from f bytes c e).stages
  stages_are = let o = opened_from f bytes c e in ap stages_of o.chain_is ∙ opened_stages f o.stages

  module _ (b : Bytes bytes) where
    -- the records of its stages are the bytes that it was opened from, without the notes
    pub recipe_kept : recipe_of (stages_of c) ≡ without_notes bytes
    unfolding open_stages without_notes
    recipe_kept = let o = opened_from f bytes c e in ap recipe_of stages_are ∙ opened_recipe 8 f (records bytes) o.stages (records_bytes 0 bytes b) o.opens
