-- Laws of the definitions in PlainChain. Assumes nothing.
use Rattle.std.specs.Prelude.{◌≡◌, refl, true, List, [], ◌∷◌, map, ℕ, zero, suc, take, drop}
use Rattle.std.proofs.Common.{ap, ap₂, ◌∙◌, subst}
use Rattle.std.proofs.Math.Facts.{sfits_lit}
use Rattle.pcm.specs.declared.PcmFormat.{PcmFormat}
use Rattle.pcm.specs.Frames.{Frame, FramesOf}
use Rattle.filters.specs.Filters.{memory_at_rest}
use Rattle.rates.specs.declared.ResamplerState.{ResamplerState}
use Rattle.resample.specs.laws.Blocks.{resampled_is_whole, state_is_whole}
use Rattle.stage.specs.declared.StageKind.{StageKind}
use Rattle.stage.specs.declared.StageKind.TheVariants as kind
use Rattle.stage.specs.declared.SoundMemory.{SoundMemory}
use Rattle.stage.specs.declared.Stage.{Stage}
use Rattle.stage.specs.Stages.{stage_out, stage_next, stage_as_opened, memory_as_opened, format_after, out_of, keeps_of}
use Rattle.stage.specs.Rooms.{stage_suits}
use Rattle.stage.specs.laws.Rooms.{stage_frames}
use Rattle.block.specs.Chain.{chain_out, chain_next}
use Rattle.stream.specs.PlainChain.{plain_stage, plain_memory, through, plain_out, plain_state}

-- ---- the stages as opened make and keep just that
out_is_plain : (k : StageKind) (X : List Frame) → out_of k memory_as_opened X ≡ plain_stage k X
unfolding plain_stage
out_is_plain (kind.Gain g) X = refl
out_is_plain kind.MonoToStereo X = refl
out_is_plain kind.StereoToMono X = refl
out_is_plain (kind.Resample r) X = resampled_is_whole r X
out_is_plain (kind.DcBlock b) X = refl
out_is_plain (kind.Biquad b) X = refl

keeps_is_plain : (k : StageKind) (X : List Frame) → keeps_of k memory_as_opened X ≡ plain_memory k X
unfolding plain_memory
keeps_is_plain (kind.Gain g) X = refl
keeps_is_plain kind.MonoToStereo X = refl
keeps_is_plain kind.StereoToMono X = refl
keeps_is_plain (kind.Resample r) X = ap (λ (s : ResamplerState). record { filter = memory_at_rest; resampler = s }) (state_is_whole r X)
keeps_is_plain (kind.DcBlock b) X = refl
keeps_is_plain (kind.Biquad b) X = refl

pub stage_is_plain : (k : StageKind) (X : List Frame) → stage_out (stage_as_opened k) X ≡ plain_stage k X
unfolding stage_out
stage_is_plain k X = out_is_plain k X

pub memory_is_plain : (k : StageKind) (X : List Frame) → stage_next (stage_as_opened k) X ≡ record { kind = k; memory = plain_memory k X }
unfolding stage_next
memory_is_plain k X = ap (λ (m : SoundMemory). record { kind = k; memory = m }) (keeps_is_plain k X)

-- frames of frames
pub plain_frames : (f : PcmFormat) (k : StageKind) (X : List Frame) → stage_suits f k memory_as_opened ≡ true → FramesOf f.channels X → FramesOf (format_after f k).channels (plain_stage k X)
plain_frames f k X h a = subst (FramesOf (format_after f k).channels) (stage_is_plain k X) (stage_frames f (stage_as_opened k) X h (sfits_lit tt, (sfits_lit tt, tt)) a)

pub chain_is_plain : (ks : List StageKind) (X : List Frame) → chain_out (map stage_as_opened ks) X ≡ plain_out ks X
unfolding through
chain_is_plain [] X = refl
chain_is_plain (k ∷ ks) X = ap (chain_out (map stage_as_opened ks)) (stage_is_plain k X) ∙ chain_is_plain ks (plain_stage k X)

pub state_is_plain : (ks : List StageKind) (X : List Frame) → chain_next (map stage_as_opened ks) X ≡ plain_state ks X
unfolding plain_state
state_is_plain [] X = refl
state_is_plain (k ∷ ks) X =
    ap₂ (λ (s : Stage) (l : List Stage). s ∷ l) (memory_is_plain k X) (ap (chain_next (map stage_as_opened ks)) (stage_is_plain k X) ∙ state_is_plain ks (plain_stage k X))

-- the stage with i stages before it makes its part of what has come through those
pub through_stage : (makes : StageKind → List Frame → List Frame) (i : ℕ) (ks : List StageKind) (k : StageKind) (rest : List StageKind) (X : List Frame)
    → drop i ks ≡ k ∷ rest → through makes (take (suc i) ks) X ≡ makes k (through makes (take i ks) X)
unfolding through
through_stage makes zero [] k rest X e = cc
through_stage makes zero (j ∷ ks) k rest X e = ap (λ (h : StageKind). makes h X) (cc)
through_stage makes (suc i) [] k rest X e = cc
through_stage makes (suc i) (j ∷ ks) k rest X e = through_stage makes i ks k rest (makes j X) e
