-- Which stages words give back: what every stage of machine numbers has (`HeldStage`), and what those have that a call leaves (`Small`). Definitions only.
use Rattle.std.specs.Prelude.{◌≡◌, List, ◌<◌, ◌^◌, T, ℤ, pos, Float, length, get_or}
use Rattle.std.specs.Float.{nan, binary32}
use Rattle.std.specs.Float.Ieee.{fits}
use Rattle.std.specs.Int.{w16, w32}
use Rattle.std.proofs.Common.{SFits}
use Rattle.filters.specs.declared.FilterMemory.{FilterMemory}
use Rattle.biquad.specs.Recurrence.{floats}
use Rattle.stage.specs.declared.StageKind.{StageKind}
use Rattle.stage.specs.declared.StageKind.TheVariants as kind
use Rattle.stage.specs.declared.SoundMemory.{SoundMemory}
use Rattle.stage.specs.declared.Stage.{Stage}

-- ---- machine numbers
-- one float of 32 bits for each of two channels
pub record TwoFloats (l : List Float) : Type 0 where
  pub places : length l ≡ 2
  pub left : T (fits binary32 (get_or l 0 nan))
  pub right : T (fits binary32 (get_or l 1 nan))

-- one sample for each of two channels
pub record TwoSamples (l : List ℤ) : Type 0 where
  pub places : length l ≡ 2
  pub left : SFits w16 (get_or l 0 (pos 0))
  pub right : SFits w16 (get_or l 1 (pos 0))

pub record HeldFilter (m : FilterMemory) : Type 0 where
  pub x1 : TwoFloats m.x1
  pub x2 : TwoFloats m.x2
  pub y1 : TwoFloats m.y1
  pub y2 : TwoFloats m.y2

abbrev pub HeldKind : StageKind → Type 0
HeldKind (kind.Gain g) = SFits w32 g.q15
HeldKind kind.MonoToStereo = Unit {0}
HeldKind kind.StereoToMono = Unit {0}
HeldKind (kind.Resample r) = Unit {0}
HeldKind (kind.DcBlock d) = T (fits binary32 d.r)
HeldKind (kind.Biquad b) = Unit {0}

pub record HeldStage (s : Stage) : Type 0 where
  pub kind : HeldKind s.kind
  pub filter : HeldFilter s.memory.filter
  pub last : TwoSamples s.memory.resampler.last

-- the memory alone
pub record HeldMemory (s : Stage) : Type 0 where
  pub filter : HeldFilter s.memory.filter
  pub last : TwoSamples s.memory.resampler.last

-- what a stage of a kind remembers
abbrev pub HeldBy : StageKind → SoundMemory → Type 0
HeldBy (kind.Gain g) m = Unit {0}
HeldBy kind.MonoToStereo m = Unit {0}
HeldBy kind.StereoToMono m = Unit {0}
HeldBy (kind.Resample r) m = TwoSamples m.resampler.last
HeldBy (kind.DcBlock d) m = HeldFilter m.filter
HeldBy (kind.Biquad b) m = HeldFilter m.filter

-- ---- within a word
-- reduced rates of one word, and coefficients that are those of their bits
abbrev pub SmallKind : StageKind → Type 0
SmallKind (kind.Gain g) = Unit {0}
SmallKind kind.MonoToStereo = Unit {0}
SmallKind kind.StereoToMono = Unit {0}
SmallKind (kind.Resample r) = (r.in_r < 2 ^ 32) × (r.out_r < 2 ^ 32)
SmallKind (kind.DcBlock d) = Unit {0}
SmallKind (kind.Biquad b) = b.coefficients ≡ floats b.bits

pub record Small (s : Stage) : Type 0 where
  pub kind : SmallKind s.kind
  pub phase : s.memory.resampler.phase < 2 ^ 32
