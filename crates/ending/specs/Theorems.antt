-- What the end of a resampler's stream comes to: the chief theorems of this crate (document 02, Q-1). Assumes nothing.
use Rattle.std.specs.Prelude.{◌≡◌, ◌↔◌, Bool, ℕ, ◌+◌, ◌-◌, ◌*◌, ◌/◌, ◌%◌, ◌≤◌, ◌<◌, pos}
use Rattle.std.proofs.Math.Path.{refl, sym, ap, subst}
use Rattle.std.proofs.Common.{◌∙◌, le-div_iff_mul-le}
use Rattle.std.proofs.Math.Bool.{true, false, cond}
use mathlib.Core.List.{List, [], ◌∷◌, ◌++◌}
use Rattle.std.proofs.Math.Decide.{dec_lt}
use native.Mathlib.Omega.{arith}
use borrow.Author.Tests.{eqb-true}
use Rattle.std.proofs.Math.Dec.{eqb}
use Rattle.std.proofs.Math.ListN.{length, get_or, length-append, get_or-append}
use Rattle.std.proofs.Math.Seq.{get_or-append_seam}
use Rattle.pcm.specs.Frames.{Frame, FramesOf}
use Rattle.rates.specs.declared.LinearResampler.{LinearResampler}
use Rattle.rates.specs.Counting.{ceil_div, count, past}
use Rattle.rates.specs.laws.Counting.{past_is, ceil_is_count}
use Rattle.rates.specs.Rates.{Rates}
use Rattle.resample.specs.Resample.{newest, whole_outputs}
use Rattle.resample.specs.laws.Delivered.{whole_length}
use Rattle.resample.specs.Neighbours.{sample_in}
use Rattle.resample.proofs.Theorems.{whole_sample}
use Rattle.ending.specs.ResamplerEnd.{on_last, EndedSample}
use Rattle.ending.specs.laws.ResamplerEnd.{divides_is, newest_at, ended-length}
use Rattle.ending.specs.laws.EndedSamples.{sample_at_lem, frame_at, of_delivered, of_last}
use Rattle.ending.specs.laws.EndRoom.{floor_by_rates}

-- ---- of the T frames X received, T at least 1, and the end
module _ (i o : ℕ) (hi : 0 < i) where
  -- each output k with k * in_r <= (T - 1) * out_r, and no other
  pub ended_exactly : (X : List Frame) → 0 < length X → (k : ℕ) → (k < length (whole_outputs i o X ++ on_last i o X)) ↔ (k * i ≤ (length X - 1) * o)
  ended_exactly X h k = (fwd, bwd)
    where
      len : length (whole_outputs i o X ++ on_last i o X) ≡ (length X - 1) * o / i + 1
      len = ended-length i o hi X h

      fwd : k < length (whole_outputs i o X ++ on_last i o X) → k * i ≤ (length X - 1) * o
      fwd l = (le-div_iff_mul-le hi).0 (omega (arith, len))

      bwd : k * i ≤ (length X - 1) * o → k < length (whole_outputs i o X ++ on_last i o X)
      bwd l = omega (arith, len, (le-div_iff_mul-le {x = k} {y = (length X - 1) * o} hi).1 l)

module _ (r : LinearResampler) (rates : Rates r) where
  -- they are floor((T - 1) * out / in) + 1 in all, by the rates themselves
  pub ended_by_rates : (X : List Frame) → 0 < length X → length (whole_outputs r.in_r r.out_r X ++ on_last r.in_r r.out_r X) ≡ (length X - 1) * r.out_rate / r.in_rate + 1
  ended_by_rates X h = ended-length r.in_r r.out_r rates.in_r.0 X h ∙ ap (λ (n : ℕ). n + 1) (floor_by_rates r rates (length X - 1))

-- ---- every output k of an ended stream lies at k * in_r
module _ (ch i o : ℕ) (hi : 0 < i) (ho : 0 < o) where
  pub ended_sample : (X : List Frame) → FramesOf ch X → (k c : ℕ) → k < length (whole_outputs i o X ++ on_last i o X) → c < ch
      → EndedSample o (k * i) X c (sample_in (whole_outputs i o X ++ on_last i o X) k c)
  unfolding on_last
  ended_sample X a k c h l = pick (dec_lt k (length (whole_outputs i o X)))
    where
      at_last : (X : List Frame) → FramesOf ch X → (length (whole_outputs i o X) ≤ k) → k < length (whole_outputs i o X ++ on_last i o X) → EndedSample o (k * i) X c (sample_in (whole_outputs i o X ++ on_last i o X) k c)
      at_last [] a g h = absurd (let z : ⊥ = omega (arith, length-append (whole_outputs i o []) []) in z)
      at_last (x ∷ xs) a g h = go (eqb (length xs * o % i) 0) refl h
        where
          go : (t : Bool) → eqb (length xs * o % i) 0 ≡ t → k < length (whole_outputs i o (x ∷ xs) ++ cond t (newest x xs ∷ []) [])
              → EndedSample o (k * i) (x ∷ xs) c (sample_in (whole_outputs i o (x ∷ xs) ++ cond t (newest x xs ∷ []) []) k c)
          go false e h = absurd (let z : ⊥ = omega (arith, length-append (whole_outputs i o (x ∷ xs)) []) in z)
          go true e h =
              let m : length (x ∷ xs) - 1 ≡ length xs = omega arith in
              let n : length (whole_outputs i o (x ∷ xs)) ≡ count i 0 (length xs * o) =
              whole_length i o (x ∷ xs) ∙ ap (λ (n : ℕ). ceil_div (n * o) i) m ∙ sym (ceil_is_count i (length xs * o)) in
              let k_is : k ≡ length (whole_outputs i o (x ∷ xs)) = omega (arith, length-append (whole_outputs i o (x ∷ xs)) (newest x xs ∷ [])) in
              let z : past i 0 (length xs * o) ≡ 0 = eqb-true _ _ (sym (divides_is i hi (length xs * o)) ∙ e) in
              let place : k * i ≡ length xs * o = omega (arith, past_is i hi 0 (length xs * o), ap (λ (j : ℕ). j * i) (k_is ∙ n)) in
              let v : get_or (whole_outputs i o (x ∷ xs) ++ newest x xs ∷ []) k [] ≡ get_or (x ∷ xs) (length xs) [] =
              ap (λ (j : ℕ). get_or (whole_outputs i o (x ∷ xs) ++ newest x xs ∷ []) j []) k_is ∙ get_or-append_seam (whole_outputs i o (x ∷ xs)) (newest x xs) [] [] ∙ sym (newest_at x xs) in
              subst (λ (f : Frame). EndedSample o (k * i) (x ∷ xs) c (get_or f c (pos 0))) (sym v)
              (of_last o (k * i) (x ∷ xs) c (length xs) place refl ho (sample_at_lem (get_or (x ∷ xs) (length xs) []) c (frame_at ch (x ∷ xs) (length xs) a (omega arith)).fits))

      pick : Dec (k < length (whole_outputs i o X)) → EndedSample o (k * i) X c (sample_in (whole_outputs i o X ++ on_last i o X) k c)
      pick (yes j) =
          subst (λ (f : Frame). EndedSample o (k * i) X c (get_or f c (pos 0))) (sym (get_or-append (whole_outputs i o X) (on_last i o X) [] k j))
          (of_delivered o (k * i) X c (whole_sample ch i o X a k c j l))
      pick (no j) = at_last X a (omega arith) h
