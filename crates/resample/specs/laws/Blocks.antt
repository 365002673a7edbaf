-- Blocks joined are the stream whole, from any state; from an opened one the paper's closed form. Assumes nothing.
use Rattle.std.specs.Prelude.{◌≡◌, cond, List, [], ◌∷◌, ◌++◌, eqb}
use Rattle.std.proofs.Common.{sym, ◌∙◌}
use Rattle.std.proofs.Math.Path.{ap}
use Rattle.pcm.specs.Frames.{Frame, flat}
use Rattle.rates.specs.Rates.{opened_state}
use Rattle.resample.specs.Resample.{resampled, state_after, resampled_whole, state_whole}
use Rattle.resample.specs.laws.Cut.{resampled-nil, state-nil, resampled-append, state-append}
use Rattle.resample.specs.laws.Delivered.{carried_is_whole, carried_state_is_whole}
use Rattle.rates.specs.declared.LinearResampler.{LinearResampler}
use Rattle.rates.specs.declared.ResamplerState.{ResamplerState}
use Rattle.resample.specs.Blocks.{joined, after_blocks}

module _ (r : LinearResampler) where
  -- from any state
  pub joined_is_resampled : (s : ResamplerState) (bs : List (List Frame)) → joined r s bs ≡ resampled r s (flat bs)
  joined_is_resampled s [] = sym (resampled-nil r s)
  joined_is_resampled s (b ∷ bs) = ap (λ (l : List Frame). resampled r s b ++ l) (joined_is_resampled (state_after r s b) bs) ∙ sym (resampled-append r s b (flat bs))

  pub after_blocks_is_state : (s : ResamplerState) (bs : List (List Frame)) → after_blocks r s bs ≡ state_after r s (flat bs)
  after_blocks_is_state s [] = sym (state-nil r s)
  after_blocks_is_state s (b ∷ bs) = after_blocks_is_state (state_after r s b) bs ∙ sym (state-append r s b (flat bs))

  -- of an opened stage: document 01's closed form
  pub resampled_is_whole : (X : List Frame) → resampled r opened_state X ≡ resampled_whole r X
  unfolding resampled resampled_whole
  resampled_is_whole X = ap (cond (eqb r.in_rate r.out_rate) X) (carried_is_whole r.in_r r.out_r X)

  pub state_is_whole : (X : List Frame) → state_after r opened_state X ≡ state_whole r X
  unfolding state_after state_whole
  state_is_whole X = ap (cond (eqb r.in_rate r.out_rate) opened_state) (carried_state_is_whole r.in_r r.out_r X)
