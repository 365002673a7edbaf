-- A record whose fields fit 32 bits. Definitions only.
use Rattle.std.specs.Prelude.{[], ◌∷◌}
use Rattle.std.specs.Int.{w32}
use Rattle.std.proofs.Common.{SFits}
use Rattle.recipe.specs.declared.Record.{Record}
use Rattle.recipe.specs.declared.Record.TheVariants as rec
use Rattle.words.specs.Words.{Words}
use Rattle.recipe.specs.Records.{fields_of}

-- a record whose fields fit 32 bits
abbrev pub Fitting : Record → Type 0
Fitting (rec.Gain q15) = SFits w32 q15
Fitting rec.MonoToStereo = Unit {0}
Fitting rec.StereoToMono = Unit {0}
Fitting (rec.Resample input output) = Words (input ∷ output ∷ [])
Fitting (rec.DcBlock corner) = Words (corner ∷ [])
Fitting (rec.Biquad rate bits) = Words (fields_of (rec.Biquad rate bits))
