-- Laws of the definitions in Storable. Assumes nothing.
use Rattle.std.specs.Prelude.{◌<◌}
use Rattle.stage.specs.declared.SoundMemory.{SoundMemory}
use Rattle.stage_words.specs.Storable.{TwoSamples, HeldFilter}

-- ---- a memory that words give back
pub record Kept (m : SoundMemory) : Type 0 where
  pub filter : HeldFilter m.filter
  pub last : TwoSamples m.resampler.last
  pub phase : m.resampler.phase < 4294967296
