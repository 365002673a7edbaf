-- Laws of the definitions in PlainClipped. Assumes nothing.
use Rattle.std.specs.Prelude.{◌≡◌, refl, true, List, [], ◌∷◌, map, ℕ, ◌+◌, ◌≤◌, ◌<◌}
use Rattle.std.proofs.Common.{ap, ap₂, ◌∙◌}
use Rattle.pcm.specs.declared.PcmFormat.{PcmFormat}
use Rattle.pcm.specs.Frames.{Frame, FramesOf}
use Rattle.stage.specs.declared.StageKind.{StageKind}
use Rattle.stage.specs.Stages.{stage_clipped, stage_as_opened, format_after}
use Rattle.stage.specs.laws.Rooms.{channels_after}
use Rattle.block.specs.BlockCall.{suited}
use Rattle.block.specs.Chain.{chain_clipped}
use Rattle.block.specs.laws.Bounds.{suited_first, suited_rest}
use Rattle.finish.specs.FinishCall.{end_clipped}
use Rattle.stream.specs.PlainChain.{plain_stage}
use Rattle.stream.proofs.laws.PlainChain.{stage_is_plain}
use Rattle.stream.specs.PlainEnd.{plain_ended}
use Rattle.stream.proofs.laws.PlainEnd.{end_is_plain, ended_frames}
use Rattle.stream.specs.PlainClipped.{plain_clipped, clipped_through, plain_clips, plain_end_clips}

-- ---- the stages as opened hold just that back
clipped_is_plain : (k : StageKind) (X : List Frame) → stage_clipped (stage_as_opened k) X ≡ plain_clipped k X
unfolding stage_clipped
clipped_is_plain k X = refl

-- ---- and so does the chain
pub clips_are_plain : (ks : List StageKind) (X : List Frame) → chain_clipped (map stage_as_opened ks) X ≡ plain_clips ks X
unfolding clipped_through
clips_are_plain [] X = refl
clips_are_plain (k ∷ ks) X =
    ap₂ (λ (n m : ℕ). n + m) (clipped_is_plain k X) (ap (chain_clipped (map stage_as_opened ks)) (stage_is_plain k X) ∙ clips_are_plain ks (plain_stage k X))

pub end_clips_are_plain : (f : PcmFormat) (ks : List StageKind) (X : List Frame) → suited f (map stage_as_opened ks) ≡ true → (0 < f.channels) × (f.channels ≤ 2)
    → FramesOf f.channels X → end_clipped f (map stage_as_opened ks) X ≡ plain_end_clips ks X
unfolding end_clipped clipped_through
end_clips_are_plain f [] X suit two a = refl
end_clips_are_plain f (k ∷ ks) X suit two a =
    let h = suited_first f (stage_as_opened k) (map stage_as_opened ks) suit in
    ap₂ (λ (n m : ℕ). n + m) (clipped_is_plain k X)
    (ap (end_clipped (format_after f k) (map stage_as_opened ks)) (end_is_plain f k h two.1 X a)
    ∙ end_clips_are_plain (format_after f k) ks (plain_ended k X) (suited_rest f (stage_as_opened k) (map stage_as_opened ks) suit) (channels_after f k two) (ended_frames f k h two.1 X a))
