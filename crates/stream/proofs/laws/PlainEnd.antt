-- Laws of the definitions in PlainEnd. Assumes nothing.
use Rattle.std.specs.Prelude.{◌≡◌, ℕ, ◌*◌, ◌≤◌, ◌<◌, leb, length, drop}
use Rattle.std.proofs.Math.Path.{refl, ap₂}
use Rattle.std.proofs.Common.{sym, ap, ◌∙◌, drop_at}
use Rattle.std.proofs.Math.Bool.{true}
use mathlib.Core.List.{List, [], ◌∷◌, ◌++◌, map}
use Rattle.pcm.specs.declared.PcmFormat.{PcmFormat}
use Rattle.pcm.specs.declared.Error.TheVariants.{BufferTooSmall}
use Rattle.pcm.specs.Refusals.{ask}
use Rattle.pcm.specs.Frames.{Frame, FrameOf, FramesOf}
use Rattle.pcm.specs.laws.Frames.{all_append}
use Rattle.stage.specs.declared.Stage.{Stage}
use Rattle.stage.specs.declared.StageKind.{StageKind}
use Rattle.stage.specs.declared.StageKind.TheVariants as kind
use Rattle.stage.specs.Stages.{keeps_of, stage_next, stage_as_opened, memory_as_opened, format_after}
use Rattle.stage.specs.Rooms.{stage_suits}
use Rattle.stage.specs.laws.Rooms.{resamples, channels_after}
use Rattle.block.specs.BlockCall.{suited}
use Rattle.block.specs.laws.Bounds.{suited_first, suited_rest}
use Rattle.ending.specs.laws.ResamplerEnd.{end_is_whole, whole_last_frames}
use Rattle.ending.specs.StageEnd.{stage_end, frames_at_end, last_of}
use Rattle.ending.specs.laws.StageEnd.{stage_end-append, stage_end_count}
use Rattle.finish.specs.FinishCall.{chain_end, room_at_end, end_verdict}
use Rattle.stream.specs.PlainChain.{plain_stage, plain_memory, plain_state, through}
use Rattle.stream.proofs.laws.PlainChain.{stage_is_plain, memory_is_plain, plain_frames}
use Rattle.stream.proofs.laws.PlainRoom.{suits_still}
use Rattle.stream.specs.PlainEnd.{plain_last, plain_ended, plain_end, ended_next, plain_room_at_end, plain_end_room}

-- ---- the stages as opened deliver just that
module _ (f : PcmFormat) (k : StageKind) (suit : stage_suits f k memory_as_opened ≡ true) (two : f.channels ≤ 2) where
  last_is_plain : (X : List Frame) → FramesOf f.channels X → last_of f.channels k (stage_next (stage_as_opened k) X).memory ≡ plain_last k X
  unfolding plain_last stage_next
  last_is_plain X a = go k suit
    where
      go : (k : StageKind) → stage_suits f k memory_as_opened ≡ true → last_of f.channels k (keeps_of k memory_as_opened X) ≡ plain_last k X
      go (kind.Gain g) h = refl
      go kind.MonoToStereo h = refl
      go kind.StereoToMono h = refl
      go (kind.Resample r) h = end_is_whole r (resamples f r memory_as_opened h).rates.in_r.0 f.channels X two a
      go (kind.DcBlock b) h = refl
      go (kind.Biquad b) h = refl

  last_frames : (X : List Frame) → FramesOf f.channels X → FramesOf (format_after f k).channels (plain_last k X)
  unfolding plain_last
  last_frames X a = go k suit
    where
      go : (k : StageKind) → stage_suits f k memory_as_opened ≡ true → FramesOf (format_after f k).channels (plain_last k X)
      go (kind.Gain g) h = tt
      go kind.MonoToStereo h = tt
      go kind.StereoToMono h = tt
      go (kind.Resample r) h = whole_last_frames r (resamples f r memory_as_opened h).rates.in_r.0 f.channels X a
      go (kind.DcBlock b) h = tt
      go (kind.Biquad b) h = tt

  pub end_is_plain : (X : List Frame) → FramesOf f.channels X → stage_end f.channels (stage_as_opened k) X ≡ plain_ended k X
  unfolding stage_end plain_ended
  end_is_plain X a = ap₂ (λ (u v : List Frame). u ++ v) (stage_is_plain k X) (last_is_plain X a)

  pub ended_frames : (X : List Frame) → FramesOf f.channels X → FramesOf (format_after f k).channels (plain_ended k X)
  unfolding plain_ended
  ended_frames X a = all_append (FrameOf (format_after f k).channels) (plain_stage k X) (plain_last k X) (plain_frames f k X suit a) (last_frames X a)

  -- from the sound state after X, where Y arrives
  ended_parts : (X Y : List Frame) → FramesOf f.channels (X ++ Y) → plain_ended k (X ++ Y) ≡ plain_stage k X ++ stage_end f.channels (record { kind = k; memory = plain_memory k X }) Y
  ended_parts X Y a =
      sym (end_is_plain (X ++ Y) a) ∙ stage_end-append f.channels (stage_as_opened k) X Y
      ∙ ap₂ (λ (l : List Frame) (s : Stage). l ++ stage_end f.channels s Y) (stage_is_plain k X) (memory_is_plain k X)

  ended_next_lem : (X Y : List Frame) → FramesOf f.channels (X ++ Y) → ended_next k X Y ≡ stage_end f.channels (record { kind = k; memory = plain_memory k X }) Y
  ended_next_lem X Y a = ap (drop (length (plain_stage k X))) (ended_parts X Y a) ∙ drop_at (plain_stage k X) _ (length (plain_stage k X)) refl

  ended_next_parts : (X Y : List Frame) → FramesOf f.channels (X ++ Y) → plain_stage k X ++ ended_next k X Y ≡ plain_ended k (X ++ Y)
  ended_next_parts X Y a = ap (λ (l : List Frame). plain_stage k X ++ l) (ended_next_lem X Y a) ∙ sym (ended_parts X Y a)

-- ---- the chain
pub chain_end_is_plain : (f : PcmFormat) (ks : List StageKind) (X : List Frame) → suited f (map stage_as_opened ks) ≡ true → (0 < f.channels) × (f.channels ≤ 2)
    → FramesOf f.channels X → chain_end f (map stage_as_opened ks) X ≡ plain_end ks X
unfolding chain_end through
chain_end_is_plain f [] X suit two a = refl
chain_end_is_plain f (k ∷ ks) X suit two a =
    let h : stage_suits f k memory_as_opened ≡ true = suited_first f (stage_as_opened k) (map stage_as_opened ks) suit in
    ap (chain_end (format_after f k) (map stage_as_opened ks)) (end_is_plain f k h two.1 X a)
    ∙ chain_end_is_plain (format_after f k) ks (plain_ended k X) (suited_rest f (stage_as_opened k) (map stage_as_opened ks) suit) (channels_after f k two) (ended_frames f k h two.1 X a)

-- ---- the questions by counts are those of the plain chain
pub end_room_is_plain : (f : PcmFormat) (ks : List StageKind) (X Y : List Frame) (shorter : ℕ) → suited f (map stage_as_opened ks) ≡ true → (0 < f.channels) × (f.channels ≤ 2)
    → FramesOf f.channels (X ++ Y) → end_verdict f (plain_state ks X) (length Y) shorter ≡ plain_end_room f ks X Y shorter
unfolding end_verdict room_at_end plain_end_room plain_state
end_room_is_plain f [] X Y shorter suit two a = refl
end_room_is_plain f (k ∷ ks) X Y shorter suit two a =
    let h : stage_suits f k memory_as_opened ≡ true = suited_first f (stage_as_opened k) (map stage_as_opened ks) suit in
    let e : length (ended_next k X Y) ≡ frames_at_end k (plain_memory k X) (length Y) =
    ap length (ended_next_lem f k h two.1 X Y a) ∙ stage_end_count f f.channels (record { kind = k; memory = plain_memory k X }) Y (suits_still f k X h) in
    let next : FramesOf (format_after f k).channels (plain_stage k X ++ ended_next k X Y) = rw (ended_next_parts f k h two.1 X Y a) (ended_frames f k h two.1 (X ++ Y) a) in
    rw (← e) (ap (ask (leb (plain_room_at_end f k X Y) shorter) (BufferTooSmall (2 * plain_room_at_end f k X Y)))
    (end_room_is_plain (format_after f k) ks (plain_stage k X) (ended_next k X Y) shorter (suited_rest f (stage_as_opened k) (map stage_as_opened ks) suit) (channels_after f k two) next))
