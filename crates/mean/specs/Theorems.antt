-- What the mean of two samples comes to (document 02, Q-6): the chief theorems of this crate. Assumes nothing.
use Rattle.std.specs.Prelude.{◌≡◌, refl, false, ◌%◌, ◌≤◌, ℤ, pos, neg_ℤ, nat_abs, ◌+ℤ◌, ◌-ℤ◌, ◌*ℤ◌}
use Rattle.std.proofs.Common.{sym, ◌∙◌, arith, SFits}
use Rattle.std.proofs.Math.Path.{ap}
use Rattle.std.proofs.Math.IntN.{neg_ℤ-+ℤ}
use Rattle.std.specs.Int.{w16}
use Rattle.pcm.specs.Integers.{−, nearest_div}
use Rattle.pcm.specs.laws.Nearest.{nearest_near, nearest_exact, nearest_even}
use Rattle.pcm.specs.laws.Sums.{sum_range}
use Rattle.pcm.specs.Samples.{outside16}
use Rattle.counting.specs.laws.Limits.{sample_inside}
use Rattle.mean.specs.Mean.{mean}
use Rattle.mean.specs.laws.Halves.{half_fits, half_turned}

module _ (l r : ℤ) where
  -- within one half of (l + r) / 2: twice it is within 1 of l + r
  pub mean_near : nat_abs (mean l r *ℤ pos 2 -ℤ (l +ℤ r)) ≤ 1
  unfolding mean
  mean_near = omega (arith, nearest_near 2 (omega arith) (l +ℤ r))

  -- equal to it where l + r is even
  pub mean_exact : nat_abs (l +ℤ r) % 2 ≡ 0 → mean l r *ℤ pos 2 ≡ l +ℤ r
  unfolding mean
  mean_exact = nearest_exact 2 (omega arith) (l +ℤ r)

  -- even where l + r is odd
  pub mean_even : nat_abs (l +ℤ r) % 2 ≡ 1 → nat_abs (mean l r) % 2 ≡ 0
  unfolding mean
  mean_even e = nearest_even 2 (omega arith) (l +ℤ r) (omega arith)

  -- leaning neither down nor up: both samples turned over give the mean turned over
  pub mean_turned : mean (neg_ℤ l) (neg_ℤ r) ≡ neg_ℤ (mean l r)
  unfolding mean
  mean_turned = ap (λ (z : ℤ). nearest_div z 2) (sym (neg_ℤ-+ℤ l r)) ∙ half_turned (l +ℤ r)

-- so it never leaves the sample range
pub mean_fits : (l r : ℤ) → SFits w16 l → SFits w16 r → SFits w16 (mean l r)
unfolding mean
mean_fits l r f g = half_fits (l +ℤ r) (sum_range l r f g)

-- and clips nothing
pub mean_clips_nothing : (l r : ℤ) → SFits w16 l → SFits w16 r → outside16 (mean l r) ≡ false
mean_clips_nothing l r f g = sample_inside (mean l r) (mean_fits l r f g)

-- (1, 2) gives 2, (0, 1) gives 0, (-1, -2) gives -2 and (-1, 0) gives 0
pub mean_examples : (mean (pos 1) (pos 2) ≡ pos 2) × (mean (pos 0) (pos 1) ≡ pos 0) × (mean (− 1) (− 2) ≡ − 2) × (mean (− 1) (pos 0) ≡ pos 0)
unfolding mean nearest_div
mean_examples = (refl, refl, refl, refl)
