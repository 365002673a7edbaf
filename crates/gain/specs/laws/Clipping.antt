-- Laws of the definitions in Clipping: the count adds up over any cutting, and is at most the samples. Assumes nothing.
use Rattle.std.specs.Prelude.{◌≡◌, false, List, [], ◌++◌, ℕ, ◌+◌, ◌*◌, ◌%◌, ◌≤◌, ℤ, pos, length}
use Rattle.std.proofs.Math.Path.{refl}
use Rattle.std.proofs.Common.{sym, ap, ◌∙◌, SFits}
use Rattle.std.specs.Int.{w16}
use Rattle.pcm.specs.Samples.{Samples, outside16, decode}
use Rattle.pcm.specs.Frames.{flat, frames_of}
use Rattle.pcm.specs.laws.Frames.{flat_frames}
use Rattle.counting.specs.laws.Counting.{count-append, count_le, count_same, count_none}
use Rattle.counting.specs.laws.Limits.{sample_inside}
use Rattle.gain.specs.Clipping.{clipped_by, clipped_in}
use Rattle.gain.specs.laws.Gain.{unity_quotient}

module _ (q15 : ℤ) where
  pub clipped-nil : clipped_in q15 [] ≡ 0
  unfolding clipped_in
  clipped-nil = refl

  pub clipped-append : (xs ys : List ℤ) → clipped_in q15 (xs ++ ys) ≡ clipped_in q15 xs + clipped_in q15 ys
  unfolding clipped_in
  clipped-append xs ys = count-append (clipped_by q15) xs ys

  pub clipped_le : (xs : List ℤ) → clipped_in q15 xs ≤ length xs
  unfolding clipped_in
  clipped_le xs = count_le (clipped_by q15) xs

  -- a factor that holds no sample back
  pub clipped_none : ((x : ℤ) → SFits w16 x → clipped_by q15 x ≡ false) → (xs : List ℤ) → Samples xs → clipped_in q15 xs ≡ 0
  unfolding clipped_in
  clipped_none h xs f = count_same (clipped_by q15) (λ x. false) h xs f ∙ count_none xs

-- on frames
pub clipped_frames : (ch : ℕ) (q15 : ℤ) (bytes : List ℕ) → length bytes % (ch * 2) ≡ 0 → clipped_in q15 (decode bytes) ≡ clipped_in q15 (flat (frames_of ch bytes))
clipped_frames ch q15 bytes w = ap (clipped_in q15) (sym (flat_frames ch bytes w))

-- the factor 32,768 leaves a sample as it is
pub unity_clipped : (x : ℤ) → SFits w16 x → clipped_by (pos 32768) x ≡ false
unfolding clipped_by
unity_clipped x f = ap outside16 (unity_quotient x) ∙ sample_inside x f
