-- What the definitions come to: the chief theorems of this crate. Assumes nothing.
use Rattle.std.specs.Prelude.{◌≡◌, ◌↔◌, true, List, [], ◌∷◌, ℕ, ◌+◌, ◌-◌, ◌*◌, ◌^◌, ◌≤◌, ◌<◌, eqb, pos, neg_ℤ, length, get_or}
use Rattle.std.proofs.Common.{sym, ap, ◌∙◌, arith, lit<}
use Rattle.std.proofs.Math.Facts.{sfits_lit}
use Rattle.pcm.specs.Samples.{Samples}
use Rattle.pcm.specs.Frames.{Frame, FramesOf, flat}
use Rattle.rates.specs.Counting.{ceil_div, count}
use Rattle.rates.specs.laws.Counting.{length_tabulate, get_d_tabulate, count_before, count_after, ceil_is_count, ceil_reach}
use Rattle.rates.specs.Rates.{opened_state, room_frames, Rates}
use Rattle.rates.specs.laws.Rates.{ceil_by_rates}
use Rattle.rates.specs.Theorems.{room_holds}
use Rattle.rates.specs.declared.LinearResampler.{LinearResampler}
use Rattle.rates.specs.declared.ResamplerState.{ResamplerState}
use Rattle.resample.specs.Value.{interpolated, value, distance}
use Rattle.resample.specs.Resample.{output_at, gaps, whole_outputs, whole_sound_state, among, first_at, carried_outputs, resampled, state_after, resampled_whole, state_whole}
use Rattle.resample.specs.Blocks.{joined, after_blocks}
use Rattle.resample.specs.Neighbours.{sample_in, DeliveredSample}
use Rattle.resample.specs.laws.Delivered.{gaps_is, carried_is_whole, whole_length, resampled_count_lem}
use Rattle.resample.specs.laws.Blocks.{joined_is_resampled, after_blocks_is_state, resampled_is_whole, state_is_whole}
use Rattle.resample.proofs.laws.Neighbours.{among_frames, outputs_sample}

-- ---- of the T frames X received
-- output k is delivered exactly while k * in_r < (T - 1) * out_r
pub delivered_exactly : (i o : ℕ) → 0 < i → (X : List Frame) (k : ℕ) → (k < length (whole_outputs i o X)) ↔ (k * i < (length X - 1) * o)
delivered_exactly i o hi X k = (fwd, bwd)
  where
    len : length (whole_outputs i o X) ≡ count i 0 ((length X - 1) * o)
    len = whole_length i o X ∙ sym (ceil_is_count i ((length X - 1) * o))

    fwd : k < length (whole_outputs i o X) → k * i < (length X - 1) * o
    fwd h = omega (arith, count_before i hi 0 ((length X - 1) * o) k (rw len at h))

    bwd : k * i < (length X - 1) * o → k < length (whole_outputs i o X)
    bwd h = rw len (count_after i hi 0 ((length X - 1) * o) k (omega arith))

-- and lies at k * in_r
pub delivered_at : (i o : ℕ) (X : List Frame) (k : ℕ) → k < length (whole_outputs i o X) → get_or (whole_outputs i o X) k [] ≡ output_at o X (k * i)
unfolding whole_outputs
delivered_at i o X k h = get_d_tabulate (ceil_div (gaps X * o) i) (λ j. output_at o X (j * i)) k [] (rw length_tabulate at h)

-- they are ceil((T - 1) * out / in), by the rates themselves
pub delivered_by_rates : (r : LinearResampler) → Rates r → (X : List Frame)
    → length (whole_outputs r.in_r r.out_r X) ≡ ceil_div ((length X - 1) * r.out_rate) r.in_rate
delivered_by_rates r k X = whole_length r.in_r r.out_r X ∙ ceil_by_rates r k (length X - 1)

-- the phase is k * in_r - (T - 1) * out_r at the first k not delivered
pub sound_phase : (i o : ℕ) → 0 < i → (x : Frame) (xs : List Frame) → (whole_sound_state i o (x ∷ xs)).phase + length xs * o ≡ length (whole_outputs i o (x ∷ xs)) * i
unfolding whole_sound_state
sound_phase i o hi x xs =
    let n : length (whole_outputs i o (x ∷ xs)) ≡ ceil_div (length xs * o) i = whole_length i o (x ∷ xs) ∙ ap (λ (n : ℕ). ceil_div (n * o) i) (sym (gaps_is (x ∷ xs))) in
    omega (arith, ceil_reach i hi (length xs * o), ap (λ (k : ℕ). k * i) n)

-- ---- however the stream is cut into blocks
pub joined_is_whole : (r : LinearResampler) (bs : List (List Frame)) → joined r opened_state bs ≡ resampled_whole r (flat bs)
joined_is_whole r bs = joined_is_resampled r opened_state bs ∙ resampled_is_whole r (flat bs)

pub after_blocks_is_whole : (r : LinearResampler) (bs : List (List Frame)) → after_blocks r opened_state bs ≡ state_whole r (flat bs)
after_blocks_is_whole r bs = after_blocks_is_state r opened_state bs ∙ state_is_whole r (flat bs)

-- ---- each sample, from any state and of the whole stream: between its neighbours and near the line
pub delivered_sample : (ch i o : ℕ) (s : ResamplerState) (xs : List Frame) → Samples s.last → FramesOf ch xs
    → (j c : ℕ) → j < length (carried_outputs i o s xs) → c < ch → DeliveredSample o (first_at s + j * i) (among s xs) c (sample_in (carried_outputs i o s xs) j c)
unfolding carried_outputs
delivered_sample ch i o s xs h a j c l k = outputs_sample ch i o (first_at s) (among s xs) (among_frames ch s xs h a) j c l k

pub whole_sample : (ch i o : ℕ) (X : List Frame) → FramesOf ch X → (k c : ℕ) → k < length (whole_outputs i o X) → c < ch → DeliveredSample o (k * i) X c (sample_in (whole_outputs i o X) k c)
unfolding among first_at
whole_sample ch i o X a k c h l =
    let e : 0 + k * i ≡ k * i = omega arith in
    rw (carried_is_whole i o X, e) at (delivered_sample ch i o opened_state X (sfits_lit tt, (sfits_lit tt, tt)) a k c (rw (carried_is_whole i o X) h) l)

-- one half alone is no bound: the line is further off at out_r 131,071, rem 131,070 and samples 65,535 apart
pub half_exceeded : 131071 * 2 ^ 31 < distance 131071 (neg_ℤ (pos 32768)) (pos 32767) 131070 (value 131071 (neg_ℤ (pos 32768)) (pos 32767) 131070)
unfolding interpolated
half_exceeded = lit< tt

-- ---- the stage
-- equal rates copy and keep no state
module _ (r : LinearResampler) (s : ResamplerState) (xs : List Frame) (e : eqb r.in_rate r.out_rate ≡ true) where
  pub resampled_equal : resampled r s xs ≡ xs
  unfolding resampled
  resampled_equal = rw e

  pub state_equal : state_after r s xs ≡ s
  unfolding state_after
  state_equal = rw e

-- the room wanted holds what the stage makes, from any state
pub room_holds_resampled : (r : LinearResampler) → Rates r → (s : ResamplerState) (xs : List Frame) → length (resampled r s xs) ≤ room_frames r.in_rate r.out_rate (length xs)
room_holds_resampled r k s xs = rw (resampled_count_lem r s xs) (room_holds r k (length xs) s.primed s.phase)
