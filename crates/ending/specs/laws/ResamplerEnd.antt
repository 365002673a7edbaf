-- The end of a resampler's stream: from a state it is that of the whole stream, and so many frames. Assumes nothing.
use Rattle.std.specs.Prelude.{◌≡◌, Bool, ◌&&◌, ℕ, zero, suc, ◌+◌, ◌-◌, ◌*◌, ◌/◌, ◌%◌, ◌≤◌, ◌<◌, leb, take, get_or}
use Rattle.std.proofs.Math.Path.{refl, sym, ap, ap₂}
use Rattle.std.proofs.Common.{◌∙◌, div-add-mod', mul-le-mul_right, eq-eqb, ne_eqb, eqb-true, leb-true, leb-false, le-leb, length-take-le, SFits}
use Rattle.std.proofs.Math.Bool.{true, false, cond}
use mathlib.Core.List.{List, [], ◌∷◌, ◌++◌}
use Rattle.std.proofs.Math.Nat.{mul-mod_left, div-eq_of_lt-le}
use native.Mathlib.Omega.{arith}
use Rattle.std.proofs.lemmas.Bool.{eqb-false}
use Rattle.std.proofs.Math.Dec.{eqb}
use Rattle.std.proofs.Math.ListN.{length, length-append}
use Rattle.std.specs.Int.{w16}
use Rattle.pcm.specs.Samples.{Samples}
use Rattle.pcm.specs.Frames.{Frame, FrameOf, FramesOf}
use Rattle.pcm.specs.laws.Frames.{all_take}
use Rattle.rates.specs.Counting.{ceil_div, count, past}
use Rattle.rates.specs.laws.Counting.{count_before, count_least, count_none_past, past_is, ceil_is_count}
use Rattle.resample.specs.Resample.{gaps, newest, padded, whole_sound_state, whole_outputs, among, first_at, carried_outputs, carried_state, resampled, state_after, state_whole}
use Rattle.rates.specs.Rates.{opened_state, carried_count}
use Rattle.resample.specs.laws.Cut.{carried-nil}
use Rattle.resample.specs.laws.Delivered.{whole_length, carried_count_lem, gaps_is}
use Rattle.resample.specs.laws.Blocks.{state_is_whole}
use Rattle.ending.specs.ResamplerEnd.{on_last, whole_last, held_last, resampler_end, up_to, end_count, end_frame_count}
use Rattle.rates.specs.declared.LinearResampler.{LinearResampler}
use Rattle.rates.specs.declared.ResamplerState.{ResamplerState}

pub up_to_all : (i D : ℕ) → up_to i 0 D ≡ D / i + 1
up_to_all i D =
    let e : D - 0 ≡ D = omega arith in
    ap₂ (λ (t : Bool) (n : ℕ). cond t (n / i + 1) 0) (le-leb 0 D (omega arith)) e

-- ---- one more at the end, where the next output falls on the last frame
abbrev pub one_if : Bool → ℕ
one_if t = cond t 1 0

module _ (i : ℕ) (hi : 0 < i) where
  -- the first output not delivered falls on the last frame exactly where i divides D
  past-zero : (D : ℕ) → D % i ≡ 0 → past i 0 D ≡ 0
  past-zero D e =
      let d : D ≡ D / i * i = omega (arith, div-add-mod' D i) in
      let a : count i 0 D ≤ D / i = count_least i hi 0 D (D / i) (omega arith) in
      omega (arith, mul-le-mul_right i a)

  zero_past : (D : ℕ) → past i 0 D ≡ 0 → D % i ≡ 0
  zero_past D e =
      let d : D ≡ count i 0 D * i = omega (arith, past_is i hi 0 D) in
      ap (λ (n : ℕ). n % i) d ∙ mul-mod_left (count i 0 D) i

  pub divides_is : (D : ℕ) → eqb (D % i) 0 ≡ eqb (past i 0 D) 0
  divides_is D = go (eqb (D % i) 0) refl
    where
      go : (t : Bool) → eqb (D % i) 0 ≡ t → t ≡ eqb (past i 0 D) 0
      go true e = sym (eq-eqb (past i 0 D) 0 (past-zero D (eqb-true (D % i) 0 e)))
      go false e = sym (ne_eqb (past i 0 D) 0 (λ h. eqb-false (D % i) 0 e (zero_past D h)))

  pub up_to_is : (p D : ℕ) → up_to i p D ≡ count i p D + one_if (eqb (past i p D) 0)
  up_to_is p D = go (leb p D) refl (eqb (past i p D) 0) refl
    where
      K : ℕ
      K = count i p D

      before : (k : ℕ) → K ≡ suc k → p + k * i < D
      before k e = count_before i hi p D k (omega arith)

      quotient : (t : Bool) → eqb (past i p D) 0 ≡ t → p ≤ D → (k : ℕ) → K ≡ k → (D - p) / i + 1 ≡ k + one_if t
      quotient true e h k j =
          let z : past i p D ≡ 0 = eqb-true _ _ e in
          let q : (D - p) / i ≡ k = div-eq_of_lt-le {k = k} i (omega (arith, past_is i hi p D, ap (λ (n : ℕ). n * i) j)) (omega (arith, past_is i hi p D, ap (λ (n : ℕ). n * i) j)) in
          omega arith
      quotient false e h zero j = absurd (eqb-false (past i p D) 0 e (omega (arith, past_is i hi p D, ap (λ (n : ℕ). n * i) j)))
      quotient false e h (suc k) j =
          let z : past i p D ≡ 0 → ⊥ = eqb-false _ _ e in
          let q : (D - p) / i ≡ k = div-eq_of_lt-le {k = k} i (omega (arith, before k j)) (omega (arith, past_is i hi p D, ap (λ (n : ℕ). n * i) j)) in
          omega arith

      go : (s : Bool) → leb p D ≡ s → (t : Bool) → eqb (past i p D) 0 ≡ t → cond s ((D - p) / i + 1) 0 ≡ count i p D + one_if t
      go true e t f = quotient t f (leb-true p D e) K refl
      go false e true f =
          let l : D < p = leb-false p D e in
          absurd (omega (arith, past_is i hi p D, count_none_past i p D (omega arith), ap (λ (n : ℕ). n * i) (count_none_past i p D (omega arith)), eqb-true (past i p D) 0 f))
      go false e false f =
          let l : D < p = leb-false p D e in
          omega (arith, count_none_past i p D (omega arith))

-- ---- the end from the sound state of a stream is that of the stream
newest_frame : (ch : ℕ) (x : Frame) (xs : List Frame) → FrameOf ch x → FramesOf ch xs → FrameOf ch (newest x xs)
newest_frame ch x [] f a = f
newest_frame ch x (y ∷ ys) f a = newest_frame ch y ys a.0 a.1

pub newest_at : (x : Frame) (xs : List Frame) → get_or (x ∷ xs) (length xs) [] ≡ newest x xs
newest_at x [] = refl
newest_at x (y ∷ ys) = newest_at y ys

padded_front : (f : Frame) → length f ≤ 2 → take (length f) (padded f) ≡ f
padded_front [] h = refl
padded_front (x ∷ []) h = refl
padded_front (x ∷ y ∷ []) h = refl
padded_front (x ∷ y ∷ z ∷ f) h = absurd (let b : ⊥ = omega arith in b)

pub frame_held : (ch : ℕ) (f : Frame) → ch ≤ 2 → FrameOf ch f → take ch (padded f) ≡ f
frame_held ch f two k = ap (λ (n : ℕ). take n (padded f)) (sym k.size) ∙ padded_front f (omega (arith, k.size))

module _ (i o : ℕ) (hi : 0 < i) where
  phase_is_past : (x : Frame) (xs : List Frame) → (whole_sound_state i o (x ∷ xs)).phase ≡ past i 0 (length xs * o)
  unfolding whole_sound_state
  phase_is_past x xs =
      let n : length (whole_outputs i o (x ∷ xs)) ≡ count i 0 (length xs * o) =
      whole_length i o (x ∷ xs) ∙ ap (λ (n : ℕ). ceil_div (n * o) i) (sym (gaps_is (x ∷ xs))) ∙ sym (ceil_is_count i (length xs * o)) in
      rw n (omega arith)

  pub held_is_on_last : (ch : ℕ) (X : List Frame) → ch ≤ 2 → FramesOf ch X → held_last ch (whole_sound_state i o X) ≡ on_last i o X
  unfolding held_last on_last whole_sound_state
  held_is_on_last ch [] two a = refl
  held_is_on_last ch (x ∷ xs) two a =
      let e : eqb (whole_sound_state i o (x ∷ xs)).phase 0 ≡ eqb (length xs * o % i) 0 = ap (λ (n : ℕ). eqb n 0) (phase_is_past x xs) ∙ sym (divides_is i hi (length xs * o)) in
      ap₂ (λ (t : Bool) (f : Frame). cond t (f ∷ []) []) e (frame_held ch (newest x xs) two (newest_frame ch x xs a.0 a.1))

  pub on_last_frames : (ch : ℕ) (X : List Frame) → FramesOf ch X → FramesOf ch (on_last i o X)
  unfolding on_last
  on_last_frames ch [] a = tt
  on_last_frames ch (x ∷ xs) a = go (eqb (length xs * o % i) 0)
    where
      go : (t : Bool) → FramesOf ch (cond t (newest x xs ∷ []) [])
      go true = (newest_frame ch x xs a.0 a.1, tt)
      go false = tt

  length_one : (t : Bool) (f : Frame) → length (cond t (f ∷ []) []) ≡ one_if t
  length_one true f = refl
  length_one false f = refl

  -- ---- how many, in all: floor((T - 1) * out_r / in_r) + 1
  pub ended-length : (X : List Frame) → 0 < length X → length (whole_outputs i o X ++ on_last i o X) ≡ (length X - 1) * o / i + 1
  unfolding on_last
  ended-length [] h = absurd (let z : ⊥ = omega arith in z)
  ended-length (x ∷ xs) h =
      let e : length (x ∷ xs) - 1 ≡ length xs = omega arith in
      let n : length (whole_outputs i o (x ∷ xs)) ≡ count i 0 (length xs * o) =
      whole_length i o (x ∷ xs) ∙ ap (λ (n : ℕ). ceil_div (n * o) i) e ∙ sym (ceil_is_count i (length xs * o)) in
      length-append (whole_outputs i o (x ∷ xs)) _
      ∙ ap₂ (λ (a b : ℕ). a + b) n (length_one (eqb (length xs * o % i) 0) (newest x xs) ∙ ap one_if (divides_is i hi (length xs * o)))
      ∙ sym (up_to_is i hi 0 (length xs * o)) ∙ up_to_all i (length xs * o) ∙ ap (λ (n : ℕ). n * o / i + 1) (sym e)

-- ---- how many from a state, by the phase alone
module _ (i o : ℕ) (hi : 0 < i) (ch : ℕ) (s : ResamplerState) where
  pub end_count_lem : (xs : List Frame) → length (carried_outputs i o s xs) + length (held_last ch (carried_state i o s xs)) ≡ end_count i o s.primed s.phase (length xs)
  unfolding held_last carried_state end_count carried_count among first_at
  end_count_lem [] =
      ap (λ (n : ℕ). n + length (held_last ch s)) (ap length (carried-nil i o s)) ∙ go s.primed s.phase
    where
      none : (p : ℕ) → up_to i p (0 * o) ≡ one_if (eqb p 0)
      none p =
          let z : 0 * o ≡ 0 = omega arith in
          let c : count i p (0 * o) ≡ 0 = count_none_past i p (0 * o) (omega arith) in
          let q : past i p (0 * o) ≡ p = omega (arith, ap (λ (n : ℕ). n * i) c) in
          up_to_is i hi p (0 * o) ∙ ap₂ (λ (a b : ℕ). a + one_if (eqb b 0)) c q ∙ omega arith

      go : (b : Bool) (p : ℕ) → 0 + length (cond (b && eqb p 0) (take ch s.last ∷ []) []) ≡ end_count i o b p 0
      go true p = sym (none p ∙ sym (length_one i o hi (eqb p 0) (take ch s.last)) ∙ omega arith)
      go false p = refl
  end_count_lem (x ∷ xs) =
      ap₂ (λ (a b : ℕ). a + b) (carried_count_lem i o s (x ∷ xs)) (length_one i o hi (eqb (carried_state i o s (x ∷ xs)).phase 0) (take ch (padded (newest x xs)))) ∙ go s.primed
    where
      go : (b : Bool) → carried_count i o b s.phase (length (x ∷ xs)) + one_if (eqb (past i (cond b s.phase 0) (gaps (cond b (s.last ∷ x ∷ xs) (x ∷ xs)) * o)) 0)
          ≡ end_count i o b s.phase (length (x ∷ xs))
      go true = sym (up_to_is i hi s.phase (length (x ∷ xs) * o))
      go false =
          let e : suc (length xs) - 1 ≡ length xs = omega arith in
          ap (λ (n : ℕ). count i 0 (n * o) + one_if (eqb (past i 0 (length xs * o)) 0)) e ∙ sym (up_to_is i hi 0 (length xs * o))

-- ---- the stage, equal rates too
module _ (r : LinearResampler) (hi : 0 < r.in_r) (ch : ℕ) where
  pub resampler_end_count : (s : ResamplerState) (xs : List Frame)
      → length (resampled r s xs) + length (resampler_end ch r (state_after r s xs)) ≡ end_frame_count r s.primed s.phase (length xs)
  unfolding resampled state_after resampler_end end_frame_count
  resampler_end_count s xs = go (eqb r.in_rate r.out_rate)
    where
      go : (b : Bool) → length (cond b xs (carried_outputs r.in_r r.out_r s xs)) + length (cond b [] (held_last ch (cond b s (carried_state r.in_r r.out_r s xs))))
          ≡ cond b (length xs) (end_count r.in_r r.out_r s.primed s.phase (length xs))
      go true = omega arith
      go false = end_count_lem r.in_r r.out_r hi ch s xs

  -- an opened stage that has taken X adds X's last frame, where it is due
  pub end_is_whole : (X : List Frame) → ch ≤ 2 → FramesOf ch X → resampler_end ch r (state_after r opened_state X) ≡ whole_last r X
  unfolding resampler_end whole_last state_whole
  end_is_whole X two a = ap (resampler_end ch r) (state_is_whole r X) ∙ go (eqb r.in_rate r.out_rate)
    where
      go : (b : Bool) → cond b [] (held_last ch (cond b opened_state (whole_sound_state r.in_r r.out_r X))) ≡ cond b [] (on_last r.in_r r.out_r X)
      go true = refl
      go false = held_is_on_last r.in_r r.out_r hi ch X two a

  pub whole_last_frames : (X : List Frame) → FramesOf ch X → FramesOf ch (whole_last r X)
  unfolding whole_last
  whole_last_frames X a = go (eqb r.in_rate r.out_rate)
    where
      go : (b : Bool) → FramesOf ch (cond b [] (on_last r.in_r r.out_r X))
      go true = tt
      go false = on_last_frames r.in_r r.out_r hi ch X a

-- before the first frame there is nothing to end
pub end_opened : (ch : ℕ) (r : LinearResampler) → resampler_end ch r opened_state ≡ []
unfolding resampler_end held_last
end_opened ch r = go (eqb r.in_rate r.out_rate)
  where
    go : (b : Bool) → ◌≡◌ {A = List Frame} (cond b [] []) []
    go true = refl
    go false = refl

-- from any state that holds two samples a frame of the channels in use
pub resampler_end_frames : (ch : ℕ) (r : LinearResampler) (s : ResamplerState) → ch ≤ 2 → length s.last ≡ 2 → Samples s.last → FramesOf ch (resampler_end ch r s)
unfolding resampler_end held_last
resampler_end_frames ch r s h two fits = go (eqb r.in_rate r.out_rate) (s.primed && eqb s.phase 0)
  where
    go : (b t : Bool) → FramesOf ch (cond b [] (cond t (take ch s.last ∷ []) []))
    go true t = tt
    go false true = (record { size = length-take-le ch s.last (omega arith); fits = all_take (SFits w16) ch s.last fits }, tt)
    go false false = tt
