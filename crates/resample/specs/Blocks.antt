-- Blocks one after another: what the stage makes of them, joined, and its state after them. Assumes nothing.
use Rattle.std.specs.Prelude.{List, [], ◌∷◌, ◌++◌}
use Rattle.pcm.specs.Frames.{Frame}
use Rattle.resample.specs.Resample.{resampled, state_after}
use Rattle.rates.specs.declared.LinearResampler.{LinearResampler}
use Rattle.rates.specs.declared.ResamplerState.{ResamplerState}

-- what the blocks bring from the state s, joined, and the state after them
abbrev pub joined : LinearResampler → ResamplerState → List (List Frame) → List Frame
joined r s [] = []
joined r s (b ∷ bs) = resampled r s b ++ joined r (state_after r s b) bs

abbrev pub after_blocks : LinearResampler → ResamplerState → List (List Frame) → ResamplerState
after_blocks r s [] = s
after_blocks r s (b ∷ bs) = after_blocks r (state_after r s b) bs
