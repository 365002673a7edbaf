-- A stage's end: a stream in two parts, and how many frames. Assumes nothing.
use Rattle.std.specs.Prelude.{◌≡◌, refl, true, List, [], ◌++◌, ℕ, ◌+◌, ◌≤◌, length}
use Rattle.std.proofs.Math.Path.{sym}
use Rattle.std.proofs.Common.{ap, ap₂, ◌∙◌, append_assoc, le_refl, length-append}
use Rattle.std.proofs.Math.Nat.{add-zero}
use Rattle.pcm.specs.declared.PcmFormat.{PcmFormat}
use Rattle.pcm.specs.Frames.{Frame}
use Rattle.stage.specs.declared.Stage.{Stage}
use Rattle.stage.specs.declared.StageKind.{StageKind}
use Rattle.stage.specs.declared.StageKind.TheVariants as kind
use Rattle.stage.specs.declared.SoundMemory.{SoundMemory}
use Rattle.stage.specs.Stages.{out_of, keeps_of, stage_out, stage_next, stage_as_opened, memory_as_opened}
use Rattle.stage.specs.laws.Stages.{stage_out-nil, stage_next-nil, stage_out-append, stage_next-append}
use Rattle.stage.specs.Rooms.{stage_suits, frames_out, frames_wanted, Bounded}
use Rattle.stage.specs.laws.Rooms.{resamples, stage_count}
use Rattle.ending.specs.laws.ResamplerEnd.{resampler_end_count, end_opened}
use Rattle.ending.specs.laws.EndRoom.{end_room_holds}
use Rattle.ending.specs.StageEnd.{last_of, stage_end, frames_at_end}

-- ---- laws: a stream in two parts, of which the second ends, is the whole that ends
pub next_kind_lem : (s : Stage) (xs : List Frame) → (stage_next s xs).kind ≡ s.kind
unfolding stage_next
next_kind_lem s xs = refl

pub stage_end-append : (ch : ℕ) (s : Stage) (xs ys : List Frame) → stage_end ch s (xs ++ ys) ≡ stage_out s xs ++ stage_end ch (stage_next s xs) ys
unfolding stage_end
stage_end-append ch s xs ys =
    ap₂ (λ (l : List Frame) (t : Stage). l ++ last_of ch s.kind t.memory) (stage_out-append s xs ys) (stage_next-append s xs ys)
    ∙ append_assoc (stage_out s xs) (stage_out (stage_next s xs) ys) _
    ∙ ap (λ (k : StageKind). stage_out s xs ++ (stage_out (stage_next s xs) ys ++ last_of ch k (stage_next (stage_next s xs) ys).memory)) (sym (next_kind_lem s xs))

-- a stage as opened that ends at once delivers nothing
pub stage_end_opened : (ch : ℕ) (k : StageKind) → stage_end ch (stage_as_opened k) [] ≡ []
unfolding stage_end
stage_end_opened ch k = ap₂ (λ (l : List Frame) (t : Stage). l ++ last_of ch k t.memory) (stage_out-nil (stage_as_opened k)) (stage_next-nil (stage_as_opened k)) ∙ go k
  where
    go : (k : StageKind) → last_of ch k memory_as_opened ≡ []
    go (kind.Gain g) = refl
    go kind.MonoToStereo = refl
    go kind.StereoToMono = refl
    go (kind.Resample r) = end_opened ch r
    go (kind.DcBlock b) = refl
    go (kind.Biquad b) = refl

-- ---- how many
module _ (f : PcmFormat) (ch : ℕ) (m : SoundMemory) where
  counted : (k : StageKind) (xs : List Frame) → stage_suits f k m ≡ true → frames_out k m (length xs) ≡ length (out_of k m xs)
      → length (out_of k m xs) + length (last_of ch k (keeps_of k m xs)) ≡ frames_at_end k m (length xs)
  unfolding frames_out frames_at_end
  counted (kind.Gain g) xs h e = add-zero _ ∙ sym e
  counted kind.MonoToStereo xs h e = add-zero _ ∙ sym e
  counted kind.StereoToMono xs h e = add-zero _ ∙ sym e
  counted (kind.Resample r) xs h e = resampler_end_count r (resamples f r m h).rates.in_r.0 ch m.resampler xs
  counted (kind.DcBlock b) xs h e = add-zero _ ∙ sym e
  counted (kind.Biquad b) xs h e = add-zero _ ∙ sym e

pub stage_end_count : (f : PcmFormat) (ch : ℕ) (s : Stage) (xs : List Frame) → stage_suits f s.kind s.memory ≡ true
    → length (stage_end ch s xs) ≡ frames_at_end s.kind s.memory (length xs)
unfolding stage_end stage_out stage_next
stage_end_count f ch s xs h =
    length-append (stage_out s xs) _ ∙ counted f ch s.memory s.kind xs h (sym (stage_count s xs))

-- the room that a block wants holds what is delivered at the end
pub end_wanted_holds : (k : StageKind) (m : SoundMemory) (n : ℕ) → Bounded k → frames_at_end k m n ≤ frames_wanted k n
unfolding frames_at_end frames_wanted
end_wanted_holds (kind.Gain g) m n b = le_refl n
end_wanted_holds kind.MonoToStereo m n b = le_refl n
end_wanted_holds kind.StereoToMono m n b = le_refl n
end_wanted_holds (kind.Resample r) m n b = end_room_holds r b n m.resampler.primed m.resampler.phase
end_wanted_holds (kind.DcBlock d) m n b = le_refl n
end_wanted_holds (kind.Biquad q) m n b = le_refl n
