-- What the loop promises, as what the block promises, over the channel count. Assumes nothing.
use Rattle.std.specs.Prelude.{◌≡◌, refl, ◌⊎◌, true, List, [], ◌∷◌, ℕ, zero, suc, ◌+◌, ◌-◌, ◌*◌, ◌/◌, ◌^◌, ◌≤◌, ◌<◌, ℤ, pos, length, get_or}
use Rattle.std.proofs.Common.{sym, ap, ap₂, ◌∙◌, subst, inl, inr, suc-le-suc, zero-le, not-suc-le-zero, eq-zero-or-pos, div-add-mod', le-div_iff_mul-le, arith}
use Rattle.pcm.specs.Samples.{sample_at}
use Rattle.pcm.specs.Frames.{Frame, frames_of}
use Rattle.pcm.specs.laws.Frames.{length_frames, length_frame, sample_of_lem}
use Rattle.rates.specs.Counting.{tabulate, count, past}
use Rattle.rates.specs.laws.Counting.{tabulate_ext, list_is, count_reach, past_below}
use Rattle.rates.specs.Rates.{start}
use Rattle.rates.specs.declared.ResamplerState.{ResamplerState}
use Rattle.resample.specs.Resample.{newest, padded, holding, outputs_from, carried_outputs, carried_state}
use Rattle.resample.specs.Place.{Parts}
use Rattle.resample.specs.Stage.{Whole, Ready, Looped, Processed}
use Rattle.resample.specs.declared.Delivered.{Delivered}
use Rattle.resample.proofs.Outputs.{total}
use Rattle.resample.proofs.Place.{frame_is, past_frames}
use Rattle.resample.proofs.Stage.{carried_by_loop, carried_state_by_loop}

-- ---- the newest frame, by its bytes
newest_is : (x : Frame) (ys : List Frame) → 0 < length ys → newest x ys ≡ get_or ys (length ys - 1) []
newest_is x [] h = absurd (not-suc-le-zero h)
newest_is x (y ∷ []) h = refl
newest_is x (y ∷ z ∷ ys) h =
    let e : length (y ∷ z ∷ ys) - 1 ≡ suc (length (z ∷ ys) - 1) = omega arith in
    newest_is y (z ∷ ys) (suc-le-suc zero-le) ∙ sym (ap (λ (n : ℕ). get_or (y ∷ z ∷ ys) n []) e)

module _ (ch : ℕ) (input : List ℕ) (w : Whole ch input) (some : 0 < length input) where
  some_frame : 0 < length input / (ch * 2)
  some_frame = pick (eq-zero-or-pos (length input / (ch * 2)))
    where
      pick : (length input / (ch * 2) ≡ zero) ⊎ (zero < length input / (ch * 2)) → 0 < length input / (ch * 2)
      pick (inl e) = absurd (let z : ⊥ = omega (arith, div-add-mod' (length input) (ch * 2), w.whole, some, ap (λ (n : ℕ). n * (ch * 2)) e) in z)
      pick (inr h) = h

  pub newest_read : newest [] (frames_of ch input) ≡ tabulate ch (λ c. sample_at input ((length input / 2 - ch + c) * 2))
  newest_read =
      let g : ℕ = length input / (ch * 2) - 1 in
      let n : length input / (ch * 2) ≡ g + 1 = omega (arith, some_frame) in
      let h : g < length input / (ch * 2) = omega (arith, some_frame) in
      let e : g * ch ≡ length input / 2 - ch = omega (arith, div-add-mod' (length input) (ch * 2), w.whole, ap (λ (m : ℕ). m * (ch * 2)) n) in
      newest_is [] (frames_of ch input) (rw (length_frames ch input) some_frame)
      ∙ ap (λ (m : ℕ). get_or (frames_of ch input) (m - 1) []) (length_frames ch input)
      ∙ list_is (pos 0) (get_or (frames_of ch input) g [])
      ∙ ap (λ (m : ℕ). tabulate m (λ c. get_or (get_or (frames_of ch input) g []) c (pos 0))) (length_frame ch input w.whole g h)
      ∙ tabulate_ext ch (λ c. get_or (get_or (frames_of ch input) g []) c (pos 0)) (λ c. sample_at input ((length input / 2 - ch + c) * 2))
      (λ c k. sample_of_lem ch input w.whole g c h k ∙ ap (λ (m : ℕ). sample_at input ((m + c) * 2)) e)

-- ---- the block, by the loop
module _ (ch i o : ℕ) (s : ResamplerState) (input out₀ : List ℕ) (r : Ready ch i o (carried_outputs i o s (frames_of ch input)) input out₀) where
  abbrev ys : List Frame
  ys = frames_of ch input

  abbrev num : ℕ
  num = start o s.primed s.phase

  some_frames : 0 < length ys
  some_frames = rw (length_frames ch input) (some_frame ch input (record { channels = r.channels; whole = r.whole }) r.some)

  by_loop : carried_outputs i o s ys ≡ outputs_from i o num (s.last ∷ ys)
  by_loop = carried_by_loop i o s ys some_frames

  pub loop_ready : Ready ch i o (outputs_from i o (start o s.primed s.phase) (s.last ∷ frames_of ch input)) input out₀
  loop_ready = subst (λ (fs : List Frame). Ready ch i o fs input out₀) by_loop r

  module _ (out : List ℕ) (d : Delivered) (l : Looped i o (start o s.primed s.phase) (outputs_from i o (start o s.primed s.phase) (s.last ∷ frames_of ch input)) out₀ out d) where
    frames_counted : d.frames ≡ count i num (length input / (ch * 2) * o)
    frames_counted = l.frames_are ∙ total ch i o num s.last input out₀ loop_ready

    past_block : length input / (ch * 2) ≤ d.at.frame
    past_block =
        let e : length input / (ch * 2) * o ≤ num + d.frames * i = rw frames_counted (count_reach i r.in_r.0 num (length input / (ch * 2) * o)) in
        subst (λ (g : ℕ). length input / (ch * 2) ≤ g) (frame_is o (num + d.frames * i) d.at l.place) ((le-div_iff_mul-le {x = length input / (ch * 2)} {y = num + d.frames * i} r.out_r.0).1 e)

    phase_carried : (d.at.frame - length input / (ch * 2)) * o + (d.at.frac * o + d.at.over) / 4294967296 ≡ past i num (length input / (ch * 2) * o)
    phase_carried = past_frames o (num + d.frames * i) d.at l.place (length input / (ch * 2)) past_block ∙ ap (λ (k : ℕ). num + k * i - length input / (ch * 2) * o) frames_counted

    -- what the way past the block asks
    pub past_ready : start o s.primed s.phase < 2 ^ 64 → Parts o d.at
        × ((length input / (ch * 2) ≤ d.at.frame) × ((d.at.frame - length input / (ch * 2)) * o + (d.at.frac * o + d.at.over) / 4294967296 < 2 ^ 64))
    past_ready h = (
      l.place.parts,
      (past_block, omega (arith, phase_carried, past_below i r.in_r.0 (2 ^ 64) num (length input / (ch * 2) * o) (omega (arith, r.in_r.1)) h)),
    )

    pub block_done : (last : List ℤ) (p : ℕ) → last ≡ padded (newest [] (frames_of ch input)) → p ≡ (d.at.frame - length input / (ch * 2)) * o + (d.at.frac * o + d.at.over) / 4294967296
        → Processed (carried_outputs i o s (frames_of ch input)) (carried_state i o s (frames_of ch input)) out₀ out (record { frames = d.frames; state = record { last = last; phase = p; primed = true } })
    block_done last p e f = record {
      frames_are = rw by_loop l.frames_are;
      bytes_are = rw by_loop l.bytes_are;
      state_is =
          ap₂ (λ (f : List ℤ) (q : ℕ). record { last = f; phase = q; primed = true }) e (f ∙ phase_carried)
          ∙ sym (carried_state_by_loop i o s [] ys some_frames ∙ ap (λ (n : ℕ). holding (newest [] ys) (past i num (n * o))) (length_frames ch input));
    }
