-- The kinds of stages' records and their numbers (document 01, 'The recipe'). Definitions only.
use Rattle.std.specs.Prelude.{[], ◌∷◌, ℕ, Option, Some, None, get_or}
use Rattle.recipe.specs.declared.Kind.{Kind}
use Rattle.recipe.specs.declared.Kind.TheVariants.{Gain, MonoToStereo, StereoToMono, Resample, DcBlock, Biquad}

-- 0x0001 gain, 0x0002 mono to stereo, 0x0003 stereo to mono, 0x0004 resample, 0x0005 DC, 0x0006 biquad
abbrev pub kind_number : Kind → ℕ
kind_number Gain = 1
kind_number MonoToStereo = 2
kind_number StereoToMono = 3
kind_number Resample = 4
kind_number DcBlock = 5
kind_number Biquad = 6

-- the kind with a number, if there is one
abbrev pub kind_numbered : ℕ → Option Kind
kind_numbered n = get_or (None ∷ Some Gain ∷ Some MonoToStereo ∷ Some StereoToMono ∷ Some Resample ∷ Some DcBlock ∷ Some Biquad ∷ []) n None

-- how many fields of 32 bits each has
abbrev pub fields_in : Option Kind → ℕ
fields_in (Some Gain) = 1
fields_in (Some MonoToStereo) = 0
fields_in (Some StereoToMono) = 0
fields_in (Some Resample) = 2
fields_in (Some DcBlock) = 1
fields_in (Some Biquad) = 6
fields_in None = 0
