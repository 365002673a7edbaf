-- A stage as eighteen plain words of 32 bits. Definitions only.
--
--   word 0 kind (the recipe's number), 1 to 6 settings, 7 to 14 the filter's memory, 15 to 17 the resampler's
use Rattle.std.specs.Prelude.{not, cond, List, [], ◌∷◌, ◌++◌, ℕ, ◌+◌, ◌*◌, ◌/◌, ◌%◌, ◌^◌, eqb, ℤ, pos, Float, get_or}
use Rattle.std.specs.Float.{nan, binary32}
use Rattle.std.specs.Float.Ieee.{of_bits}
use Rattle.std.specs.Int.{w16, w32}
use Rattle.std.proofs.Common.{to_z, of_z}
use Rattle.filters.specs.declared.FilterMemory.{FilterMemory}
use Rattle.floats.specs.Floats.{pattern_of}
use Rattle.gain.specs.declared.Gain.{Gain}
use Rattle.rates.specs.declared.LinearResampler.{LinearResampler}
use Rattle.rates.specs.declared.ResamplerState.{ResamplerState}
use Rattle.dc_block.specs.declared.DcBlock.{DcBlock}
use Rattle.biquad.specs.declared.Biquad.{Biquad}
use Rattle.biquad.specs.declared.CoefficientBits.{CoefficientBits}
use Rattle.biquad.specs.Recurrence.{floats}
use Rattle.stage.specs.declared.StageKind.{StageKind}
use Rattle.stage.specs.declared.StageKind.TheVariants as kind
use Rattle.stage.specs.declared.SoundMemory.{SoundMemory}
use Rattle.stage.specs.declared.Stage.{Stage}

-- ---- a stage to words
-- its kind and settings: floats as their patterns, words of no use zero
unfoldable pub setting_words : StageKind → List ℕ
setting_words (kind.Gain g) = 1 ∷ of_z w32 g.q15 ∷ 0 ∷ 0 ∷ 0 ∷ 0 ∷ 0 ∷ []
setting_words kind.MonoToStereo = 2 ∷ 0 ∷ 0 ∷ 0 ∷ 0 ∷ 0 ∷ 0 ∷ []
setting_words kind.StereoToMono = 3 ∷ 0 ∷ 0 ∷ 0 ∷ 0 ∷ 0 ∷ 0 ∷ []
setting_words (kind.Resample r) = 4 ∷ r.in_rate ∷ r.out_rate ∷ r.in_r % 2 ^ 32 ∷ r.out_r % 2 ^ 32 ∷ 0 ∷ 0 ∷ []
setting_words (kind.DcBlock d) = 5 ∷ d.corner ∷ pattern_of d.r ∷ 0 ∷ 0 ∷ 0 ∷ 0 ∷ []
setting_words (kind.Biquad b) = 6 ∷ b.rate ∷ b.bits.b0 ∷ b.bits.b1 ∷ b.bits.b2 ∷ b.bits.a1 ∷ b.bits.a2 ∷ []

abbrev pub float_word : List Float → ℕ → ℕ
float_word l ch = pattern_of (get_or l ch nan)

unfoldable pub filter_words : FilterMemory → List ℕ
filter_words m =
    float_word m.x1 0 ∷ float_word m.x1 1
    ∷ float_word m.x2 0 ∷ float_word m.x2 1
    ∷ float_word m.y1 0 ∷ float_word m.y1 1
    ∷ float_word m.y2 0 ∷ float_word m.y2 1
    ∷ []

-- the newest frame in one word, left in its low half
abbrev pub frame_word : List ℤ → ℕ
frame_word l = of_z w16 (get_or l 0 (pos 0)) + 2 ^ 16 * of_z w16 (get_or l 1 (pos 0))

unfoldable pub state_words : ResamplerState → List ℕ
state_words s = frame_word s.last ∷ s.phase % 2 ^ 32 ∷ cond s.primed 1 0 ∷ []

unfoldable pub memory_words : SoundMemory → List ℕ
memory_words m = filter_words m.filter ++ state_words m.resampler

unfoldable pub words_of_stage : Stage → List ℕ
words_of_stage s = setting_words s.kind ++ memory_words s.memory

-- ---- what a stage of a kind remembers: where its words begin among the stage's, and the words
unfoldable pub held_at : StageKind → ℕ
held_at (kind.Gain g) = 7
held_at kind.MonoToStereo = 7
held_at kind.StereoToMono = 7
held_at (kind.Resample r) = 15
held_at (kind.DcBlock d) = 7
held_at (kind.Biquad b) = 7

unfoldable pub held_words : StageKind → SoundMemory → List ℕ
held_words (kind.Gain g) m = []
held_words kind.MonoToStereo m = []
held_words kind.StereoToMono m = []
held_words (kind.Resample r) m = state_words m.resampler
held_words (kind.DcBlock d) m = filter_words m.filter
held_words (kind.Biquad b) m = filter_words m.filter

-- ---- words to a stage: what the words from its place on stand for
abbrev pub word : List ℕ → ℕ → ℕ
word w i = get_or w i 0

abbrev pub float_at : List ℕ → ℕ → Float
float_at w i = of_bits binary32 (word w i)

abbrev pub gain_of : List ℕ → Gain
gain_of w = record { q15 = to_z w32 (word w 1) }

abbrev pub resampler_of_words : List ℕ → LinearResampler
resampler_of_words w = record { in_rate = word w 1; out_rate = word w 2; in_r = word w 3; out_r = word w 4 }

abbrev pub dc_block_of : List ℕ → DcBlock
dc_block_of w = record { corner = word w 1; r = float_at w 2 }

abbrev pub coefficient_bits : List ℕ → CoefficientBits
coefficient_bits w = record { b0 = word w 2; b1 = word w 3; b2 = word w 4; a1 = word w 5; a2 = word w 6 }

abbrev pub biquad_of : List ℕ → Biquad
biquad_of w = record { rate = word w 1; coefficients = floats (coefficient_bits w); bits = coefficient_bits w }

-- the kind of this number; a number that is none stands for mono to stereo
unfoldable pub kind_of : List ℕ → ℕ → StageKind
kind_of w number =
    get_or
    (kind.MonoToStereo
    ∷ kind.Gain (gain_of w)
    ∷ kind.MonoToStereo
    ∷ kind.StereoToMono
    ∷ kind.Resample (resampler_of_words w)
    ∷ kind.DcBlock (dc_block_of w)
    ∷ kind.Biquad (biquad_of w)
    ∷ [])
    number
    kind.MonoToStereo

unfoldable pub filter_of : List ℕ → FilterMemory
filter_of w = record {
  x1 = float_at w 7 ∷ float_at w 8 ∷ [];
  x2 = float_at w 9 ∷ float_at w 10 ∷ [];
  y1 = float_at w 11 ∷ float_at w 12 ∷ [];
  y2 = float_at w 13 ∷ float_at w 14 ∷ [];
}

unfoldable pub state_of : List ℕ → ResamplerState
state_of w = record {
  last = to_z w16 (word w 15 % 65536) ∷ to_z w16 (word w 15 / 65536) ∷ [];
  phase = word w 16;
  primed = not (eqb (word w 17) 0);
}

abbrev pub memory_of : List ℕ → SoundMemory
memory_of w = record { filter = filter_of w; resampler = state_of w }

abbrev pub stage_of : List ℕ → Stage
stage_of w = record { kind = kind_of w (word w 0); memory = memory_of w }
