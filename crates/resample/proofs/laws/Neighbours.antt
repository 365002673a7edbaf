-- Of frames the stage makes frames, and each sample is as DeliveredSample says, from any state. Assumes nothing.
use Rattle.std.specs.Prelude.{◌≡◌, Bool, true, false, cond, eqb, pos, length}
use Rattle.std.proofs.Common.{◌∙◌, not-suc-le-zero, le_of_suc-le-suc, div-lt_iff_lt-mul, arith}
use mathlib.Core.List.{List, [], ◌∷◌}
use Prim.Native.Nat.{ℕ, zero, suc, ◌+◌, ◌*◌, ◌/◌, ◌%◌, ◌<◌, suc-le-suc}
use Rattle.std.proofs.Math.Nat.{mod-lt}
use Rattle.std.proofs.Math.IntN.{ℤ}
use Rattle.std.proofs.Math.ListN.{get_or}
use mir.Syntax.{w16}
use mir.Val.{SFits}
use Rattle.std.proofs.Math.Facts.{sfits_lit}
use Rattle.pcm.specs.Samples.{Samples}
use Rattle.pcm.specs.Frames.{Frame, FrameOf, FramesOf}
use Rattle.rates.specs.Counting.{tabulate, count}
use Rattle.rates.specs.laws.Counting.{length_tabulate, get_d_tabulate, all_tabulate, count_before, step_positive, factor_positive}
use Rattle.resample.specs.Value.{value, frac}
use Rattle.resample.proofs.laws.Value.{interpolated_between, interpolated_fits, samples_apart, frac_below, value_near_line}
use Rattle.resample.specs.Resample.{blend, output_at, gaps, among, first_at, outputs_from, carried_outputs, resampled}
use Rattle.rates.specs.declared.LinearResampler.{LinearResampler}
use Rattle.rates.specs.declared.ResamplerState.{ResamplerState}
use Rattle.resample.specs.Neighbours.{sample_in, DeliveredSample, FramesAfter}

-- ---- what is known of one frame
sample_at_lem : (f : Frame) (c : ℕ) → Samples f → SFits w16 (get_or f c (pos 0))
sample_at_lem [] c h = sfits_lit tt
sample_at_lem (x ∷ f) zero h = h.0
sample_at_lem (x ∷ f) (suc c) h = sample_at_lem f c h.1

frame_at : (ch : ℕ) (xs : List Frame) (g : ℕ) → FramesOf ch xs → g < length xs → FrameOf ch (get_or xs g [])
frame_at ch [] g a h = absurd (not-suc-le-zero h)
frame_at ch (x ∷ xs) zero a h = a.0
frame_at ch (x ∷ xs) (suc g) a h = frame_at ch xs g a.1 (le_of_suc-le-suc h)

newer_frame : (ch : ℕ) (X : List Frame) (g : ℕ) → FramesAfter ch X → g < gaps X → FrameOf ch (get_or X (suc g) [])
newer_frame ch [] g a h = absurd (not-suc-le-zero h)
newer_frame ch (x ∷ xs) g a h = frame_at ch xs g a.1 h

older_samples : (ch : ℕ) (X : List Frame) (g : ℕ) → FramesAfter ch X → g < gaps X → Samples (get_or X g [])
older_samples ch [] g a h = absurd (not-suc-le-zero h)
older_samples ch (x ∷ xs) zero a h = a.0
older_samples ch (x ∷ xs) (suc g) a h = (frame_at ch xs g a.1 (omega arith)).fits

both_there : (X : List Frame) (g : ℕ) → g < gaps X → suc g < length X
both_there [] g h = absurd (not-suc-le-zero h)
both_there (x ∷ xs) g h = suc-le-suc h

pub blend_frame : (ch o : ℕ) (a b : Frame) (r : ℕ) → r < o → Samples a → FrameOf ch b → FrameOf ch (blend o a b r)
unfolding blend
blend_frame ch o a b r h p q = record {
  size = length_tabulate (length b) (λ c. value o (get_or a c (pos 0)) (get_or b c (pos 0)) r) ∙ q.size;
  fits = all_tabulate (SFits w16) (length b) (λ c. value o (get_or a c (pos 0)) (get_or b c (pos 0)) r)
      (λ c k. interpolated_fits (get_or a c (pos 0)) (get_or b c (pos 0)) (frac o r) (frac_below o r h) (sample_at_lem a c p) (sample_at_lem b c q.fits));
}

-- ---- an output from p on in steps of in_r
module _ (ch i o p : ℕ) (X : List Frame) (a : FramesAfter ch X) (j : ℕ) (h : j < count i p (gaps X * o)) where
  before : p + j * i < gaps X * o
  before = count_before i (step_positive i p (gaps X * o) j h) p (gaps X * o) j h

  some_rate : 0 < o
  some_rate = factor_positive (gaps X) o (p + j * i) before

  gap : (p + j * i) / o < gaps X
  gap = (div-lt_iff_lt-mul some_rate).1 before

  output_frame : FrameOf ch (output_at o X (p + j * i))
  unfolding output_at
  output_frame =
      blend_frame ch o (get_or X ((p + j * i) / o) []) (get_or X (suc ((p + j * i) / o)) []) ((p + j * i) % o) (mod-lt (p + j * i) some_rate)
      (older_samples ch X ((p + j * i) / o) a gap) (newer_frame ch X ((p + j * i) / o) a gap)

  output_sample : (c : ℕ) → c < ch → DeliveredSample o (p + j * i) X c (get_or (output_at o X (p + j * i)) c (pos 0))
  unfolding output_at blend
  output_sample c k =
      let g : ℕ = (p + j * i) / o in
      let r : (p + j * i) % o < o = mod-lt (p + j * i) some_rate in
      let x : ℤ = sample_in X g c in
      let y : ℤ = sample_in X (suc g) c in
      let fx : SFits w16 x = sample_at_lem (get_or X g []) c (older_samples ch X g a gap) in
      let n = newer_frame ch X g a gap in
      let fy : SFits w16 y = sample_at_lem (get_or X (suc g) []) c n.fits in
      let e : get_or (tabulate (length (get_or X (suc g) [])) (λ c. value o (sample_in X g c) (sample_in X (suc g) c) ((p + j * i) % o))) c (pos 0) ≡ value o x y ((p + j * i) % o) =
      get_d_tabulate (length (get_or X (suc g) [])) (λ c. value o (sample_in X g c) (sample_in X (suc g) c) ((p + j * i) % o)) c (pos 0) (omega (arith, n.size)) in
      record {
        neighbours = both_there X g gap;
        is = e;
        between = rw e (interpolated_between (frac o ((p + j * i) % o)) (frac_below o ((p + j * i) % o) r) x y);
        near_line = rw e (value_near_line o ((p + j * i) % o) r x y (samples_apart x y fx fy));
      }

module _ (ch i o : ℕ) where
  outputs_frames : (p : ℕ) (X : List Frame) → FramesAfter ch X → FramesOf ch (outputs_from i o p X)
  unfolding outputs_from
  outputs_frames p X a = all_tabulate (FrameOf ch) (count i p (gaps X * o)) (λ j. output_at o X (p + j * i)) (output_frame ch i o p X a)

  pub outputs_sample : (p : ℕ) (X : List Frame) → FramesAfter ch X → (j c : ℕ) → j < length (outputs_from i o p X) → c < ch → DeliveredSample o (p + j * i) X c (sample_in (outputs_from i o p X) j c)
  unfolding outputs_from
  outputs_sample p X a j c h k =
      let l : j < count i p (gaps X * o) = rw length_tabulate at h in
      rw (get_d_tabulate (count i p (gaps X * o)) (λ j. output_at o X (p + j * i)) j [] l) (output_sample ch i o p X a j l c k)

-- ---- from any state
frames_after : (ch : ℕ) (xs : List Frame) → FramesOf ch xs → FramesAfter ch xs
frames_after ch [] a = tt
frames_after ch (x ∷ xs) a = (a.0.fits, a.1)

pub among_frames : (ch : ℕ) (s : ResamplerState) (xs : List Frame) → Samples s.last → FramesOf ch xs → FramesAfter ch (among s xs)
unfolding among
among_frames ch s xs h a = go s.primed
  where
    go : (b : Bool) → FramesAfter ch (cond b (s.last ∷ xs) xs)
    go true = (h, a)
    go false = frames_after ch xs a

module _ (ch i o : ℕ) (s : ResamplerState) (xs : List Frame) (h : Samples s.last) (a : FramesOf ch xs) where
  -- of frames the stage makes frames
  pub carried_frames : FramesOf ch (carried_outputs i o s xs)
  unfolding carried_outputs
  carried_frames = outputs_frames ch i o (first_at s) (among s xs) (among_frames ch s xs h a)

pub resampled_frames : (ch : ℕ) (r : LinearResampler) (s : ResamplerState) (xs : List Frame) → Samples s.last → FramesOf ch xs → FramesOf ch (resampled r s xs)
unfolding resampled
resampled_frames ch r s xs h a = go (eqb r.in_rate r.out_rate)
  where
    go : (b : Bool) → FramesOf ch (cond b xs (carried_outputs r.in_r r.out_r s xs))
    go true = a
    go false = carried_frames ch r.in_r r.out_r s xs h a
