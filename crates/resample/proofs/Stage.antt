-- The loop's way to begin: from the state's newest frame, whether it holds one or not. Assumes nothing.
use Rattle.std.specs.Prelude.{◌≡◌, refl, Bool, true, false, cond, List, [], ◌∷◌, ◌++◌, ℕ, suc, ◌+◌, ◌*◌, ◌<◌, eqb, length}
use Rattle.std.proofs.Common.{sym, ap, ap₂, ◌∙◌, not-suc-le-zero, arith}
use Rattle.pcm.specs.Frames.{Frame, frames_of}
use Rattle.rates.specs.Counting.{tabulate, count, past}
use Rattle.rates.specs.laws.Counting.{count_none_past, past-sum}
use Rattle.resample.specs.Resample.{output_at, gaps, newest, holding, among, first_at, outputs_from, carried_outputs, carried_state, resampled, state_after}
use Rattle.resample.specs.laws.Cut.{outputs_append}
use Rattle.rates.specs.declared.LinearResampler.{LinearResampler}
use Rattle.rates.specs.declared.ResamplerState.{ResamplerState}
use Rattle.rates.specs.Rates.{start}
use Rattle.resample.specs.declared.Resampled.{Resampled}
use Rattle.resample.specs.Stage.{Ready, Processed}

-- ---- before the first frame the loop starts at the block's first, out_r past what the state holds
module _ (i o : ℕ) where
  none_before : count i o (1 * o) ≡ 0
  none_before = count_none_past i o (1 * o) (omega arith)

  past_first : past i o (1 * o) ≡ 0
  past_first = omega (arith, ap (λ (n : ℕ). n * i) none_before)

  outputs_first : (x y : Frame) (ys : List Frame) → outputs_from i o o (x ∷ y ∷ ys) ≡ outputs_from i o 0 (y ∷ ys)
  unfolding outputs_from
  outputs_first x y ys =
      outputs_append i o o x (y ∷ []) ys
      ∙ ap₂ (λ (n p : ℕ). tabulate n (λ j. output_at o (x ∷ y ∷ []) (o + j * i)) ++ outputs_from i o p (y ∷ ys)) none_before past_first

  pub carried_by_loop : (s : ResamplerState) (ys : List Frame) → 0 < length ys → carried_outputs i o s ys ≡ outputs_from i o (start o s.primed s.phase) (s.last ∷ ys)
  unfolding carried_outputs among first_at start
  carried_by_loop s [] h = absurd (not-suc-le-zero h)
  carried_by_loop s (y ∷ ys) h = go s.primed
    where
      go : (b : Bool) → outputs_from i o (cond b s.phase 0) (cond b (s.last ∷ y ∷ ys) (y ∷ ys)) ≡ outputs_from i o (cond b s.phase o) (s.last ∷ y ∷ ys)
      go true = refl
      go false = sym (outputs_first s.last y ys)

  past_by_loop : (n : ℕ) → past i o (suc n * o) ≡ past i 0 (n * o)
  past_by_loop n =
      let e : suc n * o ≡ 1 * o + n * o = omega arith in
      ap (past i o) e ∙ past-sum i o (1 * o) (n * o) ∙ ap (λ (p : ℕ). past i p (n * o)) past_first

  pub carried_state_by_loop : (s : ResamplerState) (x : Frame) (ys : List Frame) → 0 < length ys → carried_state i o s ys ≡ holding (newest x ys) (past i (start o s.primed s.phase) (length ys * o))
  unfolding carried_state among first_at start
  carried_state_by_loop s x [] h = absurd (not-suc-le-zero h)
  carried_state_by_loop s x (y ∷ ys) h = ap (holding (newest y ys)) (go s.primed)
    where
      go : (b : Bool) → past i (cond b s.phase 0) (gaps (cond b (s.last ∷ y ∷ ys) (y ∷ ys)) * o) ≡ past i (cond b s.phase o) (length (y ∷ ys) * o)
      go true = refl
      go false = sym (past_by_loop (length ys))

-- ---- unequal rates, at the channel count that the block function is for
module _ (r : LinearResampler) (s : ResamplerState) (input out₀ : List ℕ) {channels ch : ℕ} (e : eqb r.in_rate r.out_rate ≡ false) (n : channels ≡ ch) where
  pub unequal_ready : Ready channels r.in_r r.out_r (resampled r s (frames_of channels input)) input out₀ → Ready ch r.in_r r.out_r (carried_outputs r.in_r r.out_r s (frames_of ch input)) input out₀
  unfolding resampled
  unequal_ready h = rw (e, n) at h

  pub unequal_done : {out : List ℕ} {d : Resampled} → Processed (carried_outputs r.in_r r.out_r s (frames_of ch input)) (carried_state r.in_r r.out_r s (frames_of ch input)) out₀ out d
      → Processed (resampled r s (frames_of channels input)) (state_after r s (frames_of channels input)) out₀ out d
  unfolding resampled state_after
  unequal_done p = rw (e, n) p
