-- The figures of the walk fit, and the walk one stage at a time. Assumes nothing.
use Rattle.std.specs.Prelude.{◌≡◌, Bool, cond, List, [], ◌∷◌, ℕ, ◌*◌, ◌/◌, ◌≤◌, ◌<◌, eqb, Ok, Err}
use Rattle.std.proofs.Math.Path.{refl}
use Rattle.std.proofs.Math.Bool.{true, false}
use Rattle.std.proofs.Math.Nat.{le_refl, le_trans}
use native.Mathlib.Omega.{arith}
use borrow.Author.Tests.{leb-true}
use Rattle.std.proofs.Math.Dec.{leb}
use Rattle.pcm.specs.declared.PcmFormat.{PcmFormat}
use Rattle.pcm.specs.declared.Error.TheVariants.{InvalidFormat, InvalidGeometry, TooLong}
use Rattle.pcm.specs.Refusals.{ask}
use Rattle.stage.specs.declared.Stage.{Stage}
use Rattle.stage.specs.Stages.{format_after}
use Rattle.stage.specs.Rooms.{stage_suits, frames_out, frames_wanted, Bounded}
use Rattle.stage.specs.laws.Rooms.{suits_bounded, wanted_holds, channels_after}
use Rattle.ending.specs.laws.StageEnd.{end_wanted_holds}
use Rattle.questions.specs.declared.Question.{Question}
use Rattle.questions.specs.declared.Question.TheVariants.{Block, AnyState, Finish}
use Rattle.questions.specs.declared.Due.{Due}
use Rattle.questions.specs.declared.Walk.{Walk}
use Rattle.questions.specs.Walk.{whole_frames, size_verdict, frames_if, block_frames, due_of, room_of, further, stepped, walk_on, walked, along}
use Rattle.questions.specs.laws.Bounds.{wanted_most, wide}

-- ---- numbers
module _ (f : PcmFormat) (size : ℕ) where
  pub frames_most : block_frames f size ≤ 8192
  unfolding block_frames size_verdict
  frames_most = go (whole_frames f size) (leb (size / (f.channels * 2)) 8192) refl
    where
      go : (t u : Bool) → leb (size / (f.channels * 2)) 8192 ≡ u → frames_if (ask t InvalidGeometry (ask u TooLong (Ok tt))) (size / (f.channels * 2)) ≤ 8192
      go true true e = leb-true _ _ e
      go true false e = omega arith
      go false u e = omega arith

module _ (s : Stage) (n : ℕ) where
  pub wanted_fits : (q : Question) → Bounded s.kind → n ≤ 2400000000000 → (due_of q s n).wanted ≤ 922000000000000000
  unfolding due_of
  wanted_fits Block b h = go (eqb n 0)
    where
      go : (t : Bool) → (cond {A = Due} t (record { wanted = 0; delivered = 0 }) (record { wanted = frames_wanted s.kind n; delivered = frames_out s.kind s.memory n })).wanted ≤ 922000000000000000
      go true = omega arith
      go false = wanted_most s.kind n b h
  wanted_fits AnyState b h = wanted_most s.kind n b h
  wanted_fits Finish b h = le_trans (end_wanted_holds s.kind s.memory n b) (wanted_most s.kind n b h)

  pub delivered_within : (q : Question) (f : PcmFormat) → stage_suits f s.kind s.memory ≡ true → (due_of q s n).delivered ≤ frames_wanted s.kind n
  unfolding due_of
  delivered_within Block f h = go (eqb n 0)
    where
      go : (t : Bool) → (cond {A = Due} t (record { wanted = 0; delivered = 0 }) (record { wanted = frames_wanted s.kind n; delivered = frames_out s.kind s.memory n })).delivered ≤ frames_wanted s.kind n
      go true = omega arith
      go false = wanted_holds f s.memory s.kind n h
  delivered_within AnyState f h = le_refl _
  delivered_within Finish f h = end_wanted_holds s.kind s.memory n (suits_bounded f s.kind s.memory h)

module _ (q : Question) (w : Walk) (s : Stage) where
  pub room_fits : w.frames ≤ 2400000000000 → (0 < w.format.channels) × (w.format.channels ≤ 2) → Bounded s.kind → room_of q w s ≤ 3688000000000000000
  unfolding room_of
  room_fits h c b = wide (due_of q s w.frames).wanted (format_after w.format s.kind).channels (wanted_fits s w.frames q b h) (channels_after w.format s.kind c).1

-- ---- one step
module _ (q : Question) (shorter : ℕ) (w : Walk) (s : Stage) where
  pub step_ok : (v : Walk) → stepped q shorter w s ≡ Ok v → (stage_suits w.format s.kind s.memory ≡ true) × (v ≡ further q shorter w s)
  unfolding stepped
  step_ok v = go (stage_suits w.format s.kind s.memory)
    where
      go : (t : Bool) → cond t (Ok (further q shorter w s)) (Err InvalidFormat) ≡ Ok v → (t ≡ true) × (v ≡ further q shorter w s)
      go true e = (refl, cc)
      go false e = (cc, cc)

  -- what the rest of the walk finds
  pub walked_step : (l : List Stage) → walked q shorter w (s ∷ l) ≡ walk_on (stepped q shorter w s) (λ v. walked q shorter v l)
  unfolding walked
  walked_step l = refl

  pub along_step : (l : List Stage) → along q shorter w (s ∷ l) ≡ along q shorter (further q shorter w s) l
  unfolding along
  along_step l = refl

module _ (q : Question) (shorter : ℕ) (w : Walk) where
  pub walked_none : walked q shorter w [] ≡ Ok w
  unfolding walked
  walked_none = refl

  pub along_none : along q shorter w [] ≡ w
  unfolding along
  along_none = refl
