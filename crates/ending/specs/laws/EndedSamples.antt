-- One sample of an ended stream: before the last frame, and on it. Assumes nothing.
use Rattle.std.specs.Prelude.{◌≡◌, Bool, cond, List, [], ◌∷◌, ℕ, zero, suc, ◌*◌, ◌/◌, ◌%◌, ◌<◌, ℤ, pos, ◌-ℤ◌, length, get_or}
use Rattle.std.proofs.Common.{sym, ap, ◌∙◌, zero-mul, not-suc-le-zero, le_of_suc-le-suc, arith, lt-ltb, le-ltb, SFits}
use Rattle.std.proofs.Math.Nat.{mul-mod_left, mul-div_left}
use Rattle.std.proofs.Math.IntN.{+ℤ_idl, +ℤ_idr, +ℤ-neg_ℤ_cancel}
use Rattle.std.specs.Int.{w16}
use Rattle.std.proofs.Math.Facts.{sfits_lit}
use Rattle.pcm.specs.Samples.{Samples}
use Rattle.pcm.specs.Frames.{Frame, FrameOf, FramesOf}
use Rattle.resample.specs.Value.{value, frac, interpolated}
use Rattle.resample.proofs.laws.Value.{interpolated_between, samples_apart, frac_below, value_near_line}
use Rattle.resample.specs.Neighbours.{sample_in, DeliveredSample}
use Rattle.ending.specs.ResamplerEnd.{newer_of, EndedSample}

-- ---- a frame that stands for both neighbours
interpolated_same : (a : ℤ) (f : ℕ) → interpolated a a f ≡ a
unfolding interpolated
interpolated_same a f =
    let z : a -ℤ a ≡ pos 0 = ap (λ (x : ℤ). x -ℤ a) (sym (+ℤ_idl a)) ∙ +ℤ-neg_ℤ_cancel (pos 0) a in
    rw (z, zero-mul) (+ℤ_idr a)

pub sample_at_lem : (f : Frame) (c : ℕ) → Samples f → SFits w16 (get_or f c (pos 0))
sample_at_lem [] c h = sfits_lit tt
sample_at_lem (x ∷ f) zero h = h.0
sample_at_lem (x ∷ f) (suc c) h = sample_at_lem f c h.1

pub frame_at : (ch : ℕ) (X : List Frame) (g : ℕ) → FramesOf ch X → g < length X → FrameOf ch (get_or X g [])
frame_at ch [] g a h = absurd (not-suc-le-zero h)
frame_at ch (x ∷ xs) zero a h = a.0
frame_at ch (x ∷ xs) (suc g) a h = frame_at ch xs g a.1 (le_of_suc-le-suc h)

module _ (o num : ℕ) (X : List Frame) (c : ℕ) where
  -- an output before the last frame
  pub of_delivered : {v : ℤ} → DeliveredSample o num X c v → EndedSample o num X c v
  of_delivered {v} d =
      let e : newer_of X (num / o) ≡ suc (num / o) = ap (λ (t : Bool). cond t (suc (num / o)) (num / o)) (lt-ltb _ _ d.neighbours) in
      record {
        there = omega (arith, d.neighbours);
        is = rw e d.is;
        between = rw e d.between;
        near_line = rw e d.near_line;
        last = λ h. absurd (let z : ⊥ = omega (arith, d.neighbours) in z);
      }

  -- the output on the last frame
  pub of_last : (g : ℕ) → num ≡ g * o → suc g ≡ length X → 0 < o → SFits w16 (sample_in X g c) → EndedSample o num X c (sample_in X g c)
  of_last g en eg ho fits =
      let q : num / o ≡ g = ap (λ (n : ℕ). n / o) en ∙ mul-div_left g ho in
      let m : num % o ≡ 0 = ap (λ (n : ℕ). n % o) en ∙ mul-mod_left g o in
      let e : newer_of X g ≡ g = ap (λ (t : Bool). cond t (suc g) g) (le-ltb (suc g) (length X) (omega arith)) in
      let a : ℤ = sample_in X g c in
      let v : value o (sample_in X g c) (sample_in X g c) 0 ≡ sample_in X g c = interpolated_same (sample_in X g c) (frac o 0) in
      record {
        there = omega (arith, q);
        is = rw (q, m, e) (sym v);
        between = rw (q, e) (rw v at (interpolated_between (frac o 0) (frac_below o 0 ho) (sample_in X g c) (sample_in X g c)));
        near_line = rw (q, m, e) (rw v at (value_near_line o 0 ho (sample_in X g c) (sample_in X g c) (samples_apart (sample_in X g c) (sample_in X g c) fits fits)));
        last = λ h. (m, ap (λ (n : ℕ). sample_in X n c) (sym q));
      }
