-- One frame more, streams joined, lengths, and samples of samples. Assumes nothing.
use Rattle.std.specs.Prelude.{◌≡◌, refl, ℕ, ◌*◌, ◌/◌, ◌%◌, length}
use Rattle.std.proofs.Math.Path.{ap}
use Rattle.std.proofs.Common.{◌∙◌, arith}
use mathlib.Core.List.{List, [], ◌∷◌, ◌++◌, map}
use Rattle.pcm.specs.Samples.{sample_of, low_of, high_of}
use Rattle.pcm.specs.Frames.{Frame, FrameOf, frames_of, bytes_of}
use Rattle.pcm.specs.laws.Frames.{frames_mono, frames_stereo, frames-nil, frames-append, map_append, bytes-append}
use Rattle.mean.specs.Mean.{mean}
use Rattle.mean.specs.Theorems.{mean_fits}
use Rattle.channels.specs.Channels.{doubled, stereo_bytes, mixdown, mono_bytes}

-- ---- one frame more
module _ (a b : ℕ) (rest : List ℕ) where
  pub stereo_next : stereo_bytes (a ∷ b ∷ rest) ≡ low_of (sample_of a b) ∷ high_of (sample_of a b) ∷ low_of (sample_of a b) ∷ high_of (sample_of a b) ∷ stereo_bytes rest
  unfolding stereo_bytes bytes_of
  stereo_next = ap (λ (fs : List Frame). bytes_of (map doubled fs)) (frames_mono a b rest)

  pub mono_next : (c d : ℕ) → mono_bytes (a ∷ b ∷ c ∷ d ∷ rest) ≡ low_of (mean (sample_of a b) (sample_of c d)) ∷ high_of (mean (sample_of a b) (sample_of c d)) ∷ mono_bytes rest
  unfolding mono_bytes bytes_of
  mono_next c d = ap (λ (fs : List Frame). bytes_of (map mixdown fs)) (frames_stereo a b c d rest)

pub stereo_nil : stereo_bytes [] ≡ []
unfolding stereo_bytes bytes_of
stereo_nil = ap (λ (fs : List Frame). bytes_of (map doubled fs)) (frames-nil 1)

pub mono-nil : mono_bytes [] ≡ []
unfolding mono_bytes bytes_of
mono-nil = ap (λ (fs : List Frame). bytes_of (map mixdown fs)) (frames-nil 2)

-- ---- streams joined
pub mono-append : (x y : List ℕ) → length x % 4 ≡ 0 → mono_bytes (x ++ y) ≡ mono_bytes x ++ mono_bytes y
unfolding mono_bytes
mono-append x y e =
    ap (λ (fs : List Frame). bytes_of (map mixdown fs)) (frames-append 2 x y (omega arith) e)
    ∙ ap bytes_of (map_append mixdown (frames_of 2 x) (frames_of 2 y)) ∙ bytes-append (map mixdown (frames_of 2 x)) (map mixdown (frames_of 2 y))

-- ---- lengths
pub length_stereo : (bytes : List ℕ) → length bytes % 2 ≡ 0 → length (stereo_bytes bytes) ≡ length bytes * 2
length_stereo [] e = ap length stereo_nil
length_stereo (a ∷ []) e = absurd (let z : ⊥ = omega (arith, e) in z)
length_stereo (a ∷ b ∷ rest) e = ap length (stereo_next a b rest) ∙ omega (arith, length_stereo rest (omega (arith, e)))

pub length_mono : (bytes : List ℕ) → length bytes % 4 ≡ 0 → length (mono_bytes bytes) ≡ length bytes / 2
length_mono [] e = ap length mono-nil
length_mono (a ∷ []) e = absurd (let z : ⊥ = omega (arith, e) in z)
length_mono (a ∷ b ∷ []) e = absurd (let z : ⊥ = omega (arith, e) in z)
length_mono (a ∷ b ∷ c ∷ []) e = absurd (let z : ⊥ = omega (arith, e) in z)
length_mono (a ∷ b ∷ c ∷ d ∷ rest) e = ap length (mono_next a b rest c d) ∙ omega (arith, length_mono rest (omega (arith, e)))

-- ---- samples of samples
pub doubled_frame : (f : Frame) → FrameOf 1 f → FrameOf 2 (doubled f)
doubled_frame [] h = absurd (let z : ⊥ = omega (arith, h.size) in z)
doubled_frame (x ∷ f) h = record { size = refl; fits = (h.fits.0, (h.fits.0, tt)) }

pub mixdown_frame : (f : Frame) → FrameOf 2 f → FrameOf 1 (mixdown f)
mixdown_frame [] h = absurd (let z : ⊥ = omega (arith, h.size) in z)
mixdown_frame (l ∷ []) h = absurd (let z : ⊥ = omega (arith, h.size) in z)
mixdown_frame (l ∷ r ∷ f) h = record { size = refl; fits = (mean_fits l r h.fits.0 h.fits.1.0, tt) }
