-- The samples of blocks by their places: means, sums and mixed samples. Assumes nothing.
use Rattle.std.proofs.Common.{◌≡◌, refl, sym, ap, ap₂, ◌∙◌, List, [], ◌∷◌, map, ℕ, zero, suc, ◌+◌, ◌*◌, ◌/◌, ◌%◌, ◌<◌, ℤ, pos, ◌+ℤ◌, length, get_or, arith, le_of_suc-le-suc, not-suc-le-zero}
use Rattle.pcm.specs.Samples.{sample_of, sample_at}
use Rattle.pcm.specs.laws.Samples.{length_encode}
use Rattle.pcm.specs.Frames.{Frame, flat, frames_of, bytes_of}
use Rattle.pcm.specs.laws.Frames.{frames_stereo}
use Rattle.mean.specs.Mean.{mean}
use Rattle.channels.specs.Channels.{mixdown, mono_bytes, mixed, mixed_samples, sums}
use Rattle.channels.specs.laws.Channels.{length_mono}

-- ---- the means
abbrev pub means : List ℕ → List ℤ
means bytes = flat (map mixdown (frames_of 2 bytes))

means_next : (a b c d : ℕ) (rest : List ℕ) → means (a ∷ b ∷ c ∷ d ∷ rest) ≡ mean (sample_of a b) (sample_of c d) ∷ means rest
means_next a b c d rest = ap (λ (fs : List Frame). flat (map mixdown fs)) (frames_stereo a b c d rest)

pub length_means : (bytes : List ℕ) → length bytes % 4 ≡ 0 → length (means bytes) ≡ length bytes / 4
unfolding mono_bytes bytes_of
length_means bytes e = omega (arith, length_mono bytes e, length_encode (means bytes))

past_frame : (a b c d : ℕ) (rest : List ℕ) (i j : ℕ) → j ≡ i + 4 → sample_at (a ∷ b ∷ c ∷ d ∷ rest) j ≡ sample_at rest i
unfolding sample_at
past_frame a b c d rest i j h =
    let e : j ≡ suc (suc (suc (suc i))) = omega arith in
    let f : j + 1 ≡ suc (suc (suc (suc (i + 1)))) = omega arith in
    rw (f, e) refl

pub mean_of_frame : (bytes : List ℕ) (k : ℕ) → 4 * k + 3 < length bytes → get_or (means bytes) k (pos 0) ≡ mean (sample_at bytes (4 * k)) (sample_at bytes (4 * k + 2))
unfolding sample_at
mean_of_frame [] k h = absurd (not-suc-le-zero h)
mean_of_frame (a ∷ []) k h = absurd (omega arith)
mean_of_frame (a ∷ b ∷ []) k h = absurd (omega arith)
mean_of_frame (a ∷ b ∷ c ∷ []) k h = absurd (omega arith)
mean_of_frame (a ∷ b ∷ c ∷ d ∷ rest) zero h = ap (λ l. get_or l 0 (pos 0)) (means_next a b c d rest)
mean_of_frame (a ∷ b ∷ c ∷ d ∷ rest) (suc k) h =
    ap (λ l. get_or l (suc k) (pos 0)) (means_next a b c d rest) ∙ mean_of_frame rest k (omega arith)
    ∙ sym (ap₂ mean (past_frame a b c d rest (4 * k) (4 * suc k) (omega arith)) (past_frame a b c d rest (4 * k + 2) (4 * suc k + 2) (omega arith)))

-- ---- two streams
pub length_mixed_samples : (xs ys : List ℤ) → length xs ≡ length ys → length (mixed_samples xs ys) ≡ length xs
length_mixed_samples [] ys e = refl
length_mixed_samples (x ∷ xs) [] e = absurd (let z : ⊥ = omega (arith, e) in z)
length_mixed_samples (x ∷ xs) (y ∷ ys) e = ap suc (length_mixed_samples xs ys (omega (arith, e)))

pub mixed_at : (xs ys : List ℤ) (k : ℕ) → k < length xs → k < length ys → get_or (mixed_samples xs ys) k (pos 0) ≡ mixed (get_or xs k (pos 0)) (get_or ys k (pos 0))
mixed_at [] ys k h l = absurd (not-suc-le-zero h)
mixed_at (x ∷ xs) [] k h l = absurd (not-suc-le-zero l)
mixed_at (x ∷ xs) (y ∷ ys) zero h l = refl
mixed_at (x ∷ xs) (y ∷ ys) (suc k) h l = mixed_at xs ys k (le_of_suc-le-suc h) (le_of_suc-le-suc l)

pub sum_at : (xs ys : List ℤ) (k : ℕ) → k < length xs → k < length ys → get_or (sums xs ys) k (pos 0) ≡ get_or xs k (pos 0) +ℤ get_or ys k (pos 0)
sum_at [] ys k h l = absurd (not-suc-le-zero h)
sum_at (x ∷ xs) [] k h l = absurd (not-suc-le-zero l)
sum_at (x ∷ xs) (y ∷ ys) zero h l = refl
sum_at (x ∷ xs) (y ∷ ys) (suc k) h l = sum_at xs ys k (le_of_suc-le-suc h) (le_of_suc-le-suc l)

pub sums_as_long : (xs ys : List ℤ) → length xs ≡ length ys → length (sums xs ys) ≡ length xs
sums_as_long [] ys e = refl
sums_as_long (x ∷ xs) [] e = absurd (let z : ⊥ = omega (arith, e) in z)
sums_as_long (x ∷ xs) (y ∷ ys) e = ap suc (sums_as_long xs ys (omega (arith, e)))
