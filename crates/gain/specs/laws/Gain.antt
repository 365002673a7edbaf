-- Laws of the definitions in Gain. Assumes nothing.
use Rattle.std.specs.Prelude.{◌≡◌, refl, List, [], ◌∷◌, map, ℕ, ◌*◌, ◌%◌, ℤ, pos, ◌+ℤ◌, ◌*ℤ◌, length}
use Rattle.std.proofs.Common.{ap, ap₂, ◌∙◌, arith, SFits}
use Rattle.std.proofs.Math.IntN.{+ℤ_comm, +ℤ_idr}
use Rattle.std.proofs.lemmas.List.{length-map}
use Rattle.std.specs.Int.{w16}
use Rattle.pcm.specs.Integers.{floor_div}
use Rattle.pcm.specs.laws.Integers.{floor_add}
use Rattle.pcm.specs.Samples.{Samples, held16, decode}
use Rattle.pcm.specs.laws.Samples.{held_fits, held_sample, length_encode, length_decode}
use Rattle.pcm.specs.Frames.{Frame, FrameOf, frames_of, bytes_of}
use Rattle.pcm.specs.laws.Frames.{samplewise, all_map}
use Rattle.gain.specs.Gain.{scaled, scaled_bytes}

-- ---- laws
pub scaled_fits : (q15 x : ℤ) → SFits w16 (scaled q15 x)
unfolding scaled
scaled_fits q15 x = held_fits (floor_div (x *ℤ q15 +ℤ pos 16384) 32768)

-- the factor 32,768 leaves a sample as it is: the copying arm
pub unity_quotient : (x : ℤ) → floor_div (x *ℤ pos 32768 +ℤ pos 16384) 32768 ≡ x
unity_quotient x = ap (λ (z : ℤ). floor_div z 32768) (+ℤ_comm (x *ℤ pos 32768) (pos 16384)) ∙ floor_add (pos 16384) x ∙ +ℤ_idr x

pub scaled_unity : (x : ℤ) → SFits w16 x → scaled (pos 32768) x ≡ x
unfolding scaled
scaled_unity x f = ap held16 (unity_quotient x) ∙ held_sample x f

pub unity_samples : (xs : List ℤ) → Samples xs → map (scaled (pos 32768)) xs ≡ xs
unity_samples [] f = refl
unity_samples (x ∷ xs) f = ap₂ (λ (y : ℤ) (r : List ℤ). y ∷ r) (scaled_unity x f.0) (unity_samples xs f.1)

pub length_scaled : (q15 : ℤ) (bytes : List ℕ) → length bytes % 2 ≡ 0 → length (scaled_bytes q15 bytes) ≡ length bytes
unfolding scaled_bytes
length_scaled q15 bytes e = length_encode (map (scaled q15) (decode bytes)) ∙ omega (arith, length-map (decode bytes) (scaled q15), length_decode bytes)

-- on frames: each sample by itself
pub scaled_frames : (ch : ℕ) (q15 : ℤ) (bytes : List ℕ) → length bytes % (ch * 2) ≡ 0 → scaled_bytes q15 bytes ≡ bytes_of (map (map (scaled q15)) (frames_of ch bytes))
unfolding scaled_bytes
scaled_frames ch q15 bytes w = samplewise ch bytes w (scaled q15)

pub scaled_frame : (ch : ℕ) (q15 : ℤ) (f : Frame) → FrameOf ch f → FrameOf ch (map (scaled q15) f)
scaled_frame ch q15 f h = record { size = length-map f (scaled q15) ∙ h.size; fits = all_map (SFits w16) (SFits w16) (scaled q15) (λ x k. scaled_fits q15 x) f h.fits }
