-- The count of the sums held back adds up over any even cutting, and is at most the samples. Assumes nothing.
use Rattle.std.specs.Prelude.{◌≡◌, refl, List, [], ◌∷◌, ◌++◌, ℕ, ◌+◌, ◌/◌, ◌%◌, ◌≤◌, ℤ, ◌+ℤ◌, length}
use Rattle.std.proofs.Common.{sym, ◌∙◌, arith}
use Rattle.std.proofs.Math.Path.{ap, ap₂}
use Rattle.pcm.specs.Samples.{outside16, decode}
use Rattle.pcm.specs.laws.Samples.{decode-append, length_decode}
use Rattle.counting.specs.Counting.{count_of}
use Rattle.counting.specs.laws.Counting.{count-append, count_le}
use Rattle.channels.specs.Channels.{sums, mix_clipped}

pub sums-append : (xs us ys vs : List ℤ) → length xs ≡ length us → sums (xs ++ ys) (us ++ vs) ≡ sums xs us ++ sums ys vs
sums-append [] [] ys vs e = refl
sums-append [] (u ∷ us) ys vs e = absurd (let z : ⊥ = omega (arith, e) in z)
sums-append (x ∷ xs) [] ys vs e = absurd (let z : ⊥ = omega (arith, e) in z)
sums-append (x ∷ xs) (u ∷ us) ys vs e = ap (λ l. (x +ℤ u) ∷ l) (sums-append xs us ys vs (omega (arith, e)))

pub length_sums : (xs ys : List ℤ) → length (sums xs ys) ≤ length xs
length_sums [] ys = omega arith
length_sums (x ∷ xs) [] = omega arith
length_sums (x ∷ xs) (y ∷ ys) = omega (arith, length_sums xs ys)

pub same_decoded : (a b : List ℕ) → length a ≡ length b → length (decode a) ≡ length (decode b)
same_decoded a b e = length_decode a ∙ ap (λ n. n / 2) e ∙ sym (length_decode b)

module _ (a b : List ℕ) where
  pub clipped_le : mix_clipped (decode a) (decode b) ≤ length a / 2
  unfolding mix_clipped
  clipped_le = omega (arith, count_le outside16 (sums (decode a) (decode b)), length_sums (decode a) (decode b), length_decode a)

  pub clipped-append : (s t : List ℕ) → length a ≡ length b → length a % 2 ≡ 0
      → mix_clipped (decode (a ++ s)) (decode (b ++ t)) ≡ mix_clipped (decode a) (decode b) + mix_clipped (decode s) (decode t)
  unfolding mix_clipped
  clipped-append s t e w =
      ap₂ (λ xs ys. mix_clipped xs ys) (decode-append a s w) (decode-append b t (omega (arith, e)))
      ∙ ap (λ l. count_of outside16 l) (sums-append (decode a) (decode b) (decode s) (decode t) (same_decoded a b e))
      ∙ count-append outside16 (sums (decode a) (decode b)) (sums (decode s) (decode t))
