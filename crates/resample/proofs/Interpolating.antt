-- The steps of one interpolation, each within its width, and the samples that it reads. Assumes nothing.
use Rattle.std.specs.Prelude.{◌≡◌, ◌∷◌, List, ℕ, zero, suc, ◌+◌, ◌-◌, ◌*◌, ◌/◌, ◌%◌, ◌<◌, ℤ, pos, ◌+ℤ◌, ◌-ℤ◌, ◌*ℤ◌, length}
use Rattle.std.proofs.Common.{ap, ◌∙◌, le_of_lt, arith, SFits}
use Rattle.std.specs.Int.{w16, w64}
use Rattle.pcm.specs.Integers.{floor_div}
use Rattle.pcm.specs.laws.Integers.{abs_self, add_within, sub_within, mul_within, floor_within, within_fits, fits_within}
use Rattle.pcm.specs.Samples.{sample_at}
use Rattle.pcm.specs.Frames.{Frame, frames_of}
use Rattle.pcm.specs.laws.Frames.{sample_of_lem}
use Rattle.resample.specs.Value.{interpolated}
use Rattle.resample.specs.Neighbours.{sample_in}
use Rattle.resample.proofs.laws.Value.{interpolated_fits}

pub record Steps (a b : ℤ) (f : ℕ) : Type 0 where
  pub difference : SFits w64 (b -ℤ a)
  pub factor : SFits w64 (pos f)
  pub product : SFits w64 ((b -ℤ a) *ℤ pos f)
  pub rounded : SFits w64 ((b -ℤ a) *ℤ pos f +ℤ pos 2147483648)
  pub quotient : SFits w64 (floor_div ((b -ℤ a) *ℤ pos f +ℤ pos 2147483648) 4294967296)
  pub sum : SFits w16 (a +ℤ floor_div ((b -ℤ a) *ℤ pos f +ℤ pos 2147483648) 4294967296)

pub steps : (a b : ℤ) (f : ℕ) → f < 4294967296 → SFits w16 a → SFits w16 b → Steps a b f
unfolding interpolated
steps a b f h p q =
    let d = sub_within b a (within_fits b q) (within_fits a p) in
    let m = mul_within (b -ℤ a) (pos f) d (le_of_lt h) in
    let s = add_within ((b -ℤ a) *ℤ pos f) (pos 2147483648) m (abs_self (pos 2147483648)) in
    record {
      difference = fits_within w64 (b -ℤ a) d (omega arith);
      factor = fits_within w64 (pos f) (le_of_lt h) (omega arith);
      product = fits_within w64 ((b -ℤ a) *ℤ pos f) m (omega arith);
      rounded = fits_within w64 ((b -ℤ a) *ℤ pos f +ℤ pos 2147483648) s (omega arith);
      quotient = fits_within w64 (floor_div ((b -ℤ a) *ℤ pos f +ℤ pos 2147483648) 4294967296) (floor_within ((b -ℤ a) *ℤ pos f +ℤ pos 2147483648) 4294967296 s) (omega arith);
      sum = interpolated_fits a b f h p q;
    }

-- sample c of the frame before frame g of a block, where that is one of the block's
pub sample_before : (ch : ℕ) (x : Frame) (bytes : List ℕ) → length bytes % (ch * 2) ≡ 0 → (g c : ℕ) → 0 < g → g < length bytes / (ch * 2) → c < ch
    → sample_in (x ∷ frames_of ch bytes) g c ≡ sample_at bytes ((g * ch + c - ch) * 2)
sample_before ch x bytes w zero c p h k = absurd (let z : ⊥ = omega arith in z)
sample_before ch x bytes w (suc g) c p h k =
    let e : (g * ch + c) * 2 ≡ (suc g * ch + c - ch) * 2 = omega arith in
    sample_of_lem ch bytes w g c (omega arith) k ∙ ap (sample_at bytes) e
