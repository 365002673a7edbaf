-- Laws of the layout: what was written is read back. Assumes nothing.
use Rattle.std.specs.Prelude.{◌≡◌, refl, Bool, true, false, not, cond, List, [], ◌∷◌, ◌++◌, ℕ, ◌/◌, ◌%◌, ◌<◌, T, eqb, ℤ, pos, Float, length, get_or}
use Rattle.std.proofs.Math.Path.{ap₂}
use Rattle.std.proofs.Common.{arith, to_z, of_z}
use Rattle.std.specs.Float.{nan, inf, fin, binary32}
use Rattle.std.specs.Float.Ieee.{fits, of_bits}
use Rattle.std.specs.Float.Ieee.Bits.{of_bits-to_bits}
use mir.Syntax.{w16, w32}
use Rattle.std.proofs.Math.Facts.{to_z-of_z, Fits-of_z}
use Rattle.filters.specs.declared.FilterMemory.{FilterMemory}
use Rattle.floats.specs.Floats.{pattern_of}
use Rattle.rates.specs.declared.ResamplerState.{ResamplerState}
use Rattle.stage.specs.declared.StageKind.{StageKind}
use Rattle.stage.specs.declared.StageKind.TheVariants as kind
use Rattle.stage.specs.declared.SoundMemory.{SoundMemory}
use Rattle.stage.specs.declared.Stage.{Stage}
use Rattle.stage_words.specs.Layout.{setting_words, float_word, filter_words, frame_word, state_words, memory_words, words_of_stage, kind_of, filter_of, state_of, memory_of, stage_of}
use Rattle.stage_words.specs.Storable.{TwoFloats, TwoSamples, HeldFilter, HeldKind, HeldStage, SmallKind, Small}

-- ---- numbers
pub float_back : (x : Float) → T (fits binary32 x) → of_bits binary32 (pattern_of x) ≡ x
unfolding pattern_of of_bits
float_back nan h = refl
float_back (inf s) h = of_bits-to_bits binary32 (inf s) h
float_back (fin s m e) h = of_bits-to_bits binary32 (fin s m e) h

low_back : (n : ℕ) → n < 4294967296 → n % 4294967296 ≡ n
low_back n h = omega arith

-- ---- two channels
pair_of : {A : Type 0} (l : List A) (d : A) → length l ≡ 2 → get_or l 0 d ∷ get_or l 1 d ∷ [] ≡ l
pair_of [] d e = absurd (let z : ⊥ = omega arith in z)
pair_of (x ∷ []) d e = absurd (let z : ⊥ = omega arith in z)
pair_of (x ∷ y ∷ []) d e = refl
pair_of (x ∷ y ∷ z ∷ l) d e = absurd (let z : ⊥ = omega arith in z)

floats_back : (l : List Float) → TwoFloats l → of_bits binary32 (float_word l 0) ∷ of_bits binary32 (float_word l 1) ∷ [] ≡ l
floats_back l h = rw (float_back (get_or l 0 nan) h.left, float_back (get_or l 1 nan) h.right) (pair_of l nan h.places)

samples_back : (l : List ℤ) → TwoSamples l → to_z w16 (frame_word l % 65536) ∷ to_z w16 (frame_word l / 65536) ∷ [] ≡ l
samples_back l h =
    let a : of_z w16 (get_or l 0 (pos 0)) < 65536 = (Fits-of_z h.left).fits in
    let b : of_z w16 (get_or l 1 (pos 0)) < 65536 = (Fits-of_z h.right).fits in
    let e : frame_word l % 65536 ≡ of_z w16 (get_or l 0 (pos 0)) = omega arith in
    let f : frame_word l / 65536 ≡ of_z w16 (get_or l 1 (pos 0)) = omega arith in
    rw (e, f, to_z-of_z h.left, to_z-of_z h.right) (pair_of l (pos 0) h.places)

primed_back : (b : Bool) → not (eqb (cond b 1 0) 0) ≡ b
primed_back true = refl
primed_back false = refl

-- ---- one stage
pub filter_back : (m : FilterMemory) → HeldFilter m → record {
  x1 = of_bits binary32 (float_word m.x1 0) ∷ of_bits binary32 (float_word m.x1 1) ∷ [];
  x2 = of_bits binary32 (float_word m.x2 0) ∷ of_bits binary32 (float_word m.x2 1) ∷ [];
  y1 = of_bits binary32 (float_word m.y1 0) ∷ of_bits binary32 (float_word m.y1 1) ∷ [];
  y2 = of_bits binary32 (float_word m.y2 0) ∷ of_bits binary32 (float_word m.y2 1) ∷ [];
} ≡ m
filter_back m h = rw (floats_back m.x1 h.x1, floats_back m.x2 h.x2, floats_back m.y1 h.y1, floats_back m.y2 h.y2)

pub state_back : (s : ResamplerState) → TwoSamples s.last → s.phase < 4294967296 → record {
  last = to_z w16 (frame_word s.last % 65536) ∷ to_z w16 (frame_word s.last / 65536) ∷ [];
  phase = s.phase % 4294967296;
  primed = not (eqb (cond s.primed 1 0) 0);
} ≡ s
state_back s h k = rw (samples_back s.last h, low_back s.phase k, primed_back s.primed)

-- seven words, then a memory's
module _ (m : SoundMemory) (f : HeldFilter m.filter) (l : TwoSamples m.resampler.last) (p : m.resampler.phase < 4294967296) where
  pub memory_back : (a b c d e g h : ℕ) (rest : List ℕ) → memory_of (a ∷ b ∷ c ∷ d ∷ e ∷ g ∷ h ∷ (memory_words m ++ rest)) ≡ m
  unfolding memory_words filter_words state_words filter_of state_of
  memory_back a b c d e g h rest = ap₂ (λ (x : FilterMemory) (y : ResamplerState). record { filter = x; resampler = y }) (filter_back m.filter f) (state_back m.resampler l p)

  kind_back : (k : StageKind) → HeldKind k → SmallKind k → (rest : List ℕ) → stage_of ((setting_words k ++ memory_words m) ++ rest) ≡ record { kind = k; memory = m }
  unfolding setting_words kind_of
  kind_back (kind.Gain g) h s rest = rw (memory_back 1 (of_z w32 g.q15) 0 0 0 0 0 rest, to_z-of_z h)
  kind_back kind.MonoToStereo h s rest = rw (memory_back 2 0 0 0 0 0 0 rest)
  kind_back kind.StereoToMono h s rest = rw (memory_back 3 0 0 0 0 0 0 rest)
  kind_back (kind.Resample r) h s rest = rw (memory_back 4 r.in_rate r.out_rate (r.in_r % 4294967296) (r.out_r % 4294967296) 0 0 rest, low_back r.in_r s.0, low_back r.out_r s.1)
  kind_back (kind.DcBlock d) h s rest = rw (memory_back 5 d.corner (pattern_of d.r) 0 0 0 0 rest, float_back d.r h)
  kind_back (kind.Biquad b) h s rest = rw (memory_back 6 b.rate b.bits.b0 b.bits.b1 b.bits.b2 b.bits.a1 b.bits.a2 rest, ← s)

pub stage_back : (s : Stage) → HeldStage s → Small s → (rest : List ℕ) → stage_of (words_of_stage s ++ rest) ≡ s
unfolding words_of_stage
stage_back s h k rest = kind_back s.memory h.filter h.last k.phase s.kind h.kind k.kind rest
