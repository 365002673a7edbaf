-- An opened stage brings the paper's closed form; how many frames are brought, from any state. Assumes nothing.
use Rattle.std.specs.Prelude.{◌≡◌, Bool, ℕ, ◌+◌, ◌-◌, ◌*◌, eqb}
use Rattle.std.proofs.Math.Path.{refl, sym, ap}
use Rattle.std.proofs.Common.{◌∙◌, zero-add, arith}
use Rattle.std.proofs.Math.Bool.{true, false, cond}
use mathlib.Core.List.{List, [], ◌∷◌}
use Rattle.std.proofs.Math.ListN.{length}
use Rattle.pcm.specs.Frames.{Frame}
use Rattle.rates.specs.Counting.{tabulate, ceil_div, count}
use Rattle.rates.specs.laws.Counting.{tabulate_ext, length_tabulate, ceil_is_count}
use Rattle.resample.specs.Resample.{output_at, gaps, whole_outputs, whole_sound_state, among, first_at, outputs_from, carried_outputs, carried_state, resampled}
use Rattle.rates.specs.Rates.{opened_state, carried_count, resampled_count}
use Rattle.rates.specs.declared.LinearResampler.{LinearResampler}
use Rattle.rates.specs.declared.ResamplerState.{ResamplerState}

pub gaps_is : (X : List Frame) → gaps X ≡ length X - 1
gaps_is [] = refl
gaps_is (x ∷ xs) = omega arith

-- ---- an opened stage
module _ (i o : ℕ) where
  pub carried_is_whole : (X : List Frame) → carried_outputs i o opened_state X ≡ whole_outputs i o X
  unfolding carried_outputs outputs_from among first_at whole_outputs
  carried_is_whole X =
      ap (λ (n : ℕ). tabulate n (λ k. output_at o X (0 + k * i))) (ceil_is_count i (gaps X * o))
      ∙ tabulate_ext (ceil_div (gaps X * o) i) (λ k. output_at o X (0 + k * i)) (λ k. output_at o X (k * i)) (λ k h. ap (output_at o X) (zero-add (k * i)))

  pub whole_length : (X : List Frame) → length (whole_outputs i o X) ≡ ceil_div ((length X - 1) * o) i
  unfolding whole_outputs
  whole_length X = length_tabulate (ceil_div (gaps X * o) i) (λ k. output_at o X (k * i)) ∙ ap (λ (n : ℕ). ceil_div (n * o) i) (gaps_is X)

  pub carried_state_is_whole : (X : List Frame) → carried_state i o opened_state X ≡ whole_sound_state i o X
  unfolding carried_state whole_sound_state among first_at whole_outputs
  carried_state_is_whole [] = refl
  carried_state_is_whole (x ∷ xs) =
      let e : length (tabulate (ceil_div (length xs * o) i) (λ k. output_at o (x ∷ xs) (k * i))) ≡ count i 0 (length xs * o) =
      length_tabulate (ceil_div (length xs * o) i) (λ k. output_at o (x ∷ xs) (k * i)) ∙ sym (ceil_is_count i (length xs * o)) in
      rw (e, zero-add)

  -- ---- how many
  pub carried_count_lem : (s : ResamplerState) (xs : List Frame) → length (carried_outputs i o s xs) ≡ carried_count i o s.primed s.phase (length xs)
  unfolding carried_outputs outputs_from among first_at carried_count
  carried_count_lem s xs = length_tabulate (count i (cond s.primed s.phase 0) (gaps (cond s.primed (s.last ∷ xs) xs) * o)) _ ∙ go s.primed
    where
      go : (b : Bool) → count i (cond b s.phase 0) (gaps (cond b (s.last ∷ xs) xs) * o) ≡ cond b (count i s.phase (length xs * o)) (count i 0 ((length xs - 1) * o))
      go true = refl
      go false = ap (λ (n : ℕ). count i 0 (n * o)) (gaps_is xs)

-- ---- the stage
pub resampled_count_lem : (r : LinearResampler) (s : ResamplerState) (xs : List Frame) → length (resampled r s xs) ≡ resampled_count r s.primed s.phase (length xs)
unfolding resampled resampled_count
resampled_count_lem r s xs = go (eqb r.in_rate r.out_rate)
  where
    go : (b : Bool) → length (cond b xs (carried_outputs r.in_r r.out_r s xs)) ≡ cond b (length xs) (carried_count r.in_r r.out_r s.primed s.phase (length xs))
    go true = refl
    go false = carried_count_lem r.in_r r.out_r s xs
