-- The loop's progress, over the channel count: the outputs due, one at each position, and what each turn asks. Assumes nothing.
use Rattle.std.specs.Prelude.{◌≡◌, refl, List, [], ◌∷◌, ◌++◌, ℕ, ◌+◌, ◌*◌, ◌/◌, ◌≤◌, ◌<◌, length, get_or}
use Rattle.std.proofs.Common.{sym, ap, ap₂, ◌∙◌, subst, zero-le, le_antisymm, div-lt_iff_lt-mul, le-div_iff_mul-le, arith, length-append}
use Rattle.std.specs.List.{splice}
use Rattle.pcm.specs.Frames.{Frame, frames_of, bytes_of, written}
use Rattle.pcm.specs.laws.Frames.{length_frames, length_frame, length_bytes_sized, bytes-append, written-nil}
use Rattle.rates.specs.Counting.{tabulate, count}
use Rattle.rates.specs.laws.Counting.{length_tabulate, all_tabulate, count_before, count_after, count_least}
use Rattle.resample.specs.Resample.{blend, output_at, outputs_from}
use Rattle.resample.specs.Place.{At}
use Rattle.resample.specs.Stage.{frame_between, Ready, Looped}
use Rattle.resample.specs.declared.Position.{Position}
use Rattle.resample.proofs.Place.{frame_is, frac_is}
use Rattle.resample.proofs.Writing.{tabulate_next, written_more}

bytes-nil : bytes_of [] ≡ []
unfolding bytes_of
bytes-nil = refl

-- k frames are written, and p is the next one's position
pub record Progress (ch i o num : ℕ) (X : List Frame) (out₀ out : List ℕ) (k : ℕ) (p : Position) : Type 0 where
  pub place : At o (num + k * i) p
  pub within : k ≤ length (outputs_from i o num X)
  pub bytes : out ≡ written (bytes_of (tabulate k (λ j. output_at o X (num + j * i)))) out₀

module _ (ch i o num : ℕ) (x : Frame) (input out₀ : List ℕ) (r : Ready ch i o (outputs_from i o num (x ∷ frames_of ch input)) input out₀) where
  abbrev X : List Frame
  X = x ∷ frames_of ch input

  abbrev due : ℕ
  due = count i num (length input / (ch * 2) * o)

  pub total : length (outputs_from i o num X) ≡ due
  unfolding outputs_from
  total = length_tabulate (count i num (length (frames_of ch input) * o)) (λ j. output_at o X (num + j * i)) ∙ ap (λ (n : ℕ). count i num (n * o)) (length_frames ch input)

  all_due : tabulate due (λ j. output_at o X (num + j * i)) ≡ outputs_from i o num X
  unfolding outputs_from
  all_due = ap (λ (n : ℕ). tabulate (count i num (n * o)) (λ j. output_at o X (num + j * i))) (sym (length_frames ch input))

  inside : (j : ℕ) → j < due → (num + j * i) / o < length input / (ch * 2)
  inside j h = (div-lt_iff_lt-mul r.out_r.0).1 (count_before i r.in_r.0 num (length input / (ch * 2) * o) j h)

  sized : (k : ℕ) → k ≤ due → length (bytes_of (tabulate k (λ j. output_at o X (num + j * i)))) ≡ k * (ch * 2)
  unfolding output_at blend
  sized k h =
      length_bytes_sized ch (tabulate k (λ j. output_at o X (num + j * i)))
      (all_tabulate (λ (f : Frame). length f ≡ ch) k (λ j. output_at o X (num + j * i))
      (λ j l. length_tabulate (length (get_or (frames_of ch input) ((num + j * i) / o) [])) _ ∙ length_frame ch input r.whole ((num + j * i) / o) (inside j (omega arith))))
      ∙ ap (λ (n : ℕ). n * (ch * 2)) (length_tabulate k (λ j. output_at o X (num + j * i)))

  pub progress_start : (p : Position) → At o num p → Progress ch i o num X out₀ out₀ 0 p
  progress_start p h = record {
    place = let e : num + 0 * i ≡ num = omega arith in rw e h;
    within = zero-le;
    bytes = sym (ap (λ (l : List ℕ). written l out₀) bytes-nil ∙ written-nil out₀);
  }

  module _ {out : List ℕ} {k : ℕ} {p : Position} (s : Progress ch i o num (x ∷ frames_of ch input) out₀ out k p) where
    module _ (l : p.frame < length input / (ch * 2)) where
      -- a frame is due while the position lies in the block
      pub more : k < length (outputs_from i o num (x ∷ frames_of ch input))
      more = rw total (count_after i r.in_r.0 num (length input / (ch * 2) * o) k
          ((div-lt_iff_lt-mul r.out_r.0).0 (subst (λ (g : ℕ). g < length input / (ch * 2)) (sym (frame_is o (num + k * i) p s.place)) l)))

      -- and it lies between the frames that the position names
      output_here : output_at o X (num + k * i) ≡ frame_between ch X p.frame p.frac
      unfolding output_at blend
      output_here = rw (frame_is o (num + k * i) p s.place, frac_is o (num + k * i) p s.place, length_frame ch input r.whole p.frame l)

      pub progress_next : {q : Position} {out' : List ℕ} → At o (num + k * i + i) q
          → out' ≡ splice out (k * (ch * 2)) ((k + 1) * (ch * 2)) (bytes_of (frame_between ch (x ∷ frames_of ch input) p.frame p.frac ∷ []))
          → Progress ch i o num (x ∷ frames_of ch input) out₀ out' (k + 1) q
      progress_next {q} {out'} h w =
          let F : ℕ → Frame = λ (j : ℕ). output_at o X (num + j * i) in
          let a : length (bytes_of (tabulate k F)) ≡ k * (ch * 2) = sized k (omega (arith, more, total)) in
          let b : length (bytes_of (tabulate (k + 1) F)) ≡ (k + 1) * (ch * 2) = sized (k + 1) (omega (arith, more, total)) in
          let e : bytes_of (tabulate (k + 1) F) ≡ bytes_of (tabulate k F) ++ bytes_of (F k ∷ []) = ap bytes_of (tabulate_next k F) ∙ bytes-append (tabulate k F) (F k ∷ []) in
          record {
            place = let n : num + (k + 1) * i ≡ num + k * i + i = omega arith in rw n h;
            within = omega (arith, more);
            bytes = w ∙ ap₂ (λ (y : List ℕ) (f : Frame). splice y (k * (ch * 2)) ((k + 1) * (ch * 2)) (bytes_of (f ∷ []))) s.bytes (sym output_here)
                ∙ written_more (bytes_of (tabulate k F)) (bytes_of (F k ∷ [])) out₀ (k * (ch * 2)) ((k + 1) * (ch * 2)) a (omega (arith, a, b, ap length e ∙ length-append (bytes_of (tabulate k F)) (bytes_of (F k ∷ []))))
                ∙ ap (λ (y : List ℕ). written y out₀) (sym e);
          }

    -- all are written once the position lies past the block
    pub looped : length input / (ch * 2) ≤ p.frame → Looped i o num (outputs_from i o num (x ∷ frames_of ch input)) out₀ out (record { frames = k; at = p })
    looped l =
        let e : length input / (ch * 2) * o ≤ num + k * i =
        (le-div_iff_mul-le {x = length input / (ch * 2)} {y = num + k * i} r.out_r.0).0 (subst (λ (g : ℕ). length input / (ch * 2) ≤ g) (sym (frame_is o (num + k * i) p s.place)) l) in
        let n : k ≡ due = le_antisymm (rw total at s.within) (count_least i r.in_r.0 num (length input / (ch * 2) * o) k e) in
        record {
          frames_are = n ∙ sym total;
          bytes_are = s.bytes ∙ ap (λ (fs : List Frame). written (bytes_of fs) out₀) (ap (λ (m : ℕ). tabulate m (λ j. output_at o X (num + j * i))) n ∙ all_due);
          place = s.place;
        }
