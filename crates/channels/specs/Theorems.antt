-- What stereo to mono holds back (document 02, Q-6), and mix_i16's questions by their answers (document 01, 'The questions'): the chief
-- theorems of this crate. Assumes nothing.
use Rattle.std.specs.Prelude.{◌≡◌, refl, List, [], ◌∷◌, map, ℕ, ◌%◌, ◌≤◌, length, Ok, Err}
use Rattle.std.proofs.Common.{arith}
use borrow.Author.Tests.{eq-eqb, ne_eqb, le-leb}
use Rattle.pcm.specs.Samples.{outside16}
use Rattle.pcm.specs.Frames.{Frame, FramesOf, flat}
use Rattle.counting.specs.Counting.{count_of}
use Rattle.mean.specs.Theorems.{mean_clips_nothing}
use Rattle.pcm.specs.declared.Error.TheVariants.{InvalidGeometry}
use Rattle.pcm.specs.Refusals.{room_verdict}
use Rattle.channels.specs.Channels.{mixdown, mix_verdict}

-- no mean lies outside the sample range
pub mixdown_clips_nothing : (xs : List Frame) → FramesOf 2 xs → count_of outside16 (flat (map mixdown xs)) ≡ 0
mixdown_clips_nothing [] h = refl
mixdown_clips_nothing ([] ∷ xs) h = mixdown_clips_nothing xs h.1
mixdown_clips_nothing ((l ∷ []) ∷ xs) h = mixdown_clips_nothing xs h.1
mixdown_clips_nothing ((l ∷ r ∷ f) ∷ xs) h = rw (mean_clips_nothing l r h.0.fits.0 h.0.fits.1.0) (omega (arith, mixdown_clips_nothing xs h.1))

module _ (a b out : List ℕ) where
  pub mix_unequal : (length a ≡ length b → ⊥) → mix_verdict a b out ≡ Err InvalidGeometry
  unfolding mix_verdict
  mix_unequal h = simp (ne_eqb _ _ h)

  pub mix_odd : length a ≡ length b → (length a % 2 ≡ 0 → ⊥) → mix_verdict a b out ≡ Err InvalidGeometry
  unfolding mix_verdict
  mix_odd e h = rw (eq-eqb _ _ e, ne_eqb _ _ h)

  pub mix_asks_room : length a ≡ length b → length a % 2 ≡ 0 → mix_verdict a b out ≡ room_verdict (length a) (length out)
  unfolding mix_verdict
  mix_asks_room e h = rw (eq-eqb _ _ e, eq-eqb _ _ h)

  pub mix_accepted : length a ≡ length b → length a % 2 ≡ 0 → length a ≤ length out → mix_verdict a b out ≡ Ok tt
  unfolding mix_verdict room_verdict
  mix_accepted e h k = rw (eq-eqb _ _ e, eq-eqb _ _ h, le-leb _ _ k)
