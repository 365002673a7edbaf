-- A filter cut between two frames goes on from its memory. Assumes nothing.
use Rattle.std.specs.Prelude.{◌≡◌, refl, ℕ, suc, ◌+◌, ◌*◌, ◌/◌, ◌%◌, ◌≤◌, ◌<◌, ℤ, get_or, Float}
use Rattle.std.proofs.Math.Path.{sym, ap, subst}
use Rattle.std.proofs.Common.{◌∙◌, div-add-mod', length-append}
use mathlib.Core.List.{List, [], ◌∷◌, ◌++◌}
use native.Mathlib.Omega.{arith}
use Rattle.std.proofs.Math.ListN.{length}
use Rattle.std.specs.Float.{nan}
use Rattle.filters.specs.declared.Taps.{Taps}
use Rattle.filters.specs.declared.FilterMemory.{FilterMemory}
use Rattle.floats.specs.Rounding.{clipped}
use Rattle.floats.specs.laws.Rounding.{round_fits}
use Rattle.counting.specs.laws.Counting.{one_le}
use Rattle.pcm.specs.Samples.{All, Samples, encode}
use Rattle.pcm.specs.laws.Samples.{all_by_index, encode-append}
use Rattle.pcm.specs.Frames.{Frame, FramesOf, frames_of, bytes_of, flat}
use Rattle.pcm.specs.laws.Frames.{length_frames, length_frame, length_bytes}
use Rattle.filters.specs.Filters.{at_rest, first, others, memory_of_taps, taps_of, frame_next, frame_out, frame_clipped, filtered, filter_clipped, filter_next, memory_next}

-- ---- taps and memories
pub taps_of_memory : (ts : List Taps) → taps_of (memory_of_taps ts) ≡ ts
taps_of_memory [] = refl
taps_of_memory (t ∷ ts) = ap (λ (r : List Taps). t ∷ r) (taps_of_memory ts)

-- a memory as the code has it, in arrays of two
pub record TwoChannels (m : FilterMemory) : Type 0 where
  pub x1 : length m.x1 ≡ 2
  pub x2 : length m.x2 ≡ 2
  pub y1 : length m.y1 ≡ 2
  pub y2 : length m.y2 ≡ 2

abbrev pub taps_at : FilterMemory → ℕ → Taps
taps_at m c = record { x1 = get_or m.x1 c nan; x2 = get_or m.x2 c nan; y1 = get_or m.y1 c nan; y2 = get_or m.y2 c nan }

pub two_of : (l : List Float) → length l ≡ 2 → l ≡ get_or l 0 nan ∷ get_or l 1 nan ∷ []
two_of [] e = absurd (let z : ⊥ = omega (arith, e) in z)
two_of (a ∷ []) e = absurd (let z : ⊥ = omega (arith, e) in z)
two_of (a ∷ b ∷ []) e = refl
two_of (a ∷ b ∷ c ∷ l) e = absurd (let z : ⊥ = omega (arith, e) in z)

module _ (m : FilterMemory) (two : TwoChannels m) where
  pub memory_held : memory_of_taps (taps_at m 0 ∷ taps_at m 1 ∷ []) ≡ m
  memory_held = rw (← two_of m.x1 two.x1, ← two_of m.x2 two.x2, ← two_of m.y1 two.y1, ← two_of m.y2 two.y2)

  pub taps_held : taps_of m ≡ taps_at m 0 ∷ taps_at m 1 ∷ []
  taps_held = ap taps_of (sym memory_held) ∙ taps_of_memory (taps_at m 0 ∷ taps_at m 1 ∷ [])

-- ---- laws of a stream
module _ (tick : Taps → ℤ → Taps) where
  -- a stream in two parts gives what the whole gives
  pub filtered-append : (ts : List Taps) (xs ys : List Frame) → filtered tick ts (xs ++ ys) ≡ filtered tick ts xs ++ filtered tick (filter_next tick ts xs) ys
  filtered-append ts [] ys = refl
  filtered-append ts (x ∷ xs) ys = ap (λ (r : List Frame). frame_out tick ts x ∷ r) (filtered-append (frame_next tick ts x) xs ys)

  pub memory_next-append : (m : FilterMemory) (xs ys : List Frame) → memory_next tick m (xs ++ ys) ≡ memory_next tick (memory_next tick m xs) ys
  memory_next-append m [] ys = refl
  memory_next-append m (x ∷ xs) ys = memory_next-append (memory_of_taps (frame_next tick (taps_of m) x)) xs ys

  -- the memory afterwards holds the taps afterwards
  pub taps_of_next : (m : FilterMemory) (fs : List Frame) → taps_of (memory_next tick m fs) ≡ filter_next tick (taps_of m) fs
  taps_of_next m [] = refl
  taps_of_next m (f ∷ fs) =
      taps_of_next (memory_of_taps (frame_next tick (taps_of m) f)) fs ∙ ap (λ (ts : List Taps). filter_next tick ts fs) (taps_of_memory (frame_next tick (taps_of m) f))

  pub next_of_taps : (ts : List Taps) (fs : List Frame) → memory_next tick (memory_of_taps ts) fs ≡ memory_of_taps (filter_next tick ts fs)
  next_of_taps ts [] = refl
  next_of_taps ts (f ∷ fs) =
      ap (λ (us : List Taps). memory_next tick (memory_of_taps (frame_next tick us f)) fs) (taps_of_memory ts) ∙ next_of_taps (frame_next tick ts f) fs

  -- the same of the outputs, by the memory
  pub filtered_append_memory : (m : FilterMemory) (xs ys : List Frame)
      → filtered tick (taps_of m) (xs ++ ys) ≡ filtered tick (taps_of m) xs ++ filtered tick (taps_of (memory_next tick m xs)) ys
  filtered_append_memory m xs ys = filtered-append (taps_of m) xs ys ∙ ap (λ (ts : List Taps). filtered tick (taps_of m) xs ++ filtered tick ts ys) (sym (taps_of_next m xs))

  -- the count of a stream in two parts is that of the first and that of the second from the taps after the first
  pub filter_clipped-append : (ts : List Taps) (xs ys : List Frame) → filter_clipped tick ts (xs ++ ys) ≡ filter_clipped tick ts xs + filter_clipped tick (filter_next tick ts xs) ys
  filter_clipped-append ts [] ys = omega arith
  filter_clipped-append ts (x ∷ xs) ys = omega (arith, filter_clipped-append (frame_next tick ts x) xs ys)

  pub filter_clipped_append_memory : (m : FilterMemory) (xs ys : List Frame)
      → filter_clipped tick (taps_of m) (xs ++ ys) ≡ filter_clipped tick (taps_of m) xs + filter_clipped tick (taps_of (memory_next tick m xs)) ys
  filter_clipped_append_memory m xs ys = filter_clipped-append (taps_of m) xs ys ∙ ap (λ (ts : List Taps). filter_clipped tick (taps_of m) xs + filter_clipped tick ts ys) (sym (taps_of_next m xs))

  -- at most the samples
  frame_clipped_le : (ts : List Taps) (f : Frame) → frame_clipped tick ts f ≤ length f
  frame_clipped_le ts [] = omega arith
  frame_clipped_le ts (x ∷ f) = omega (arith, one_le (clipped (tick (first at_rest ts) x).y1), frame_clipped_le (others ts) f)

  pub filter_clipped_le : (ts : List Taps) (fs : List Frame) → filter_clipped tick ts fs ≤ length (flat fs)
  filter_clipped_le ts [] = omega arith
  filter_clipped_le ts (f ∷ fs) = omega (arith, frame_clipped_le ts f, filter_clipped_le (frame_next tick ts f) fs, length-append f (flat fs))

  -- as many frames out as in, of as many samples, which fit 16 bits
  pub length_filtered : (ts : List Taps) (fs : List Frame) → length (filtered tick ts fs) ≡ length fs
  length_filtered ts [] = refl
  length_filtered ts (f ∷ fs) = ap suc (length_filtered (frame_next tick ts f) fs)

  length_frame_out : (ts : List Taps) (f : Frame) → length (frame_out tick ts f) ≡ length f
  length_frame_out ts [] = refl
  length_frame_out ts (x ∷ f) = ap suc (length_frame_out (others ts) f)

  frame_out_fits : (ts : List Taps) (f : Frame) → Samples (frame_out tick ts f)
  frame_out_fits ts [] = tt
  frame_out_fits ts (x ∷ f) = (round_fits (tick (first at_rest ts) x).y1, frame_out_fits (others ts) f)

  sized_are_frames : (ch : ℕ) (ts : List Taps) (fs : List Frame) → All (λ (f : Frame). length f ≡ ch) fs → FramesOf ch (filtered tick ts fs)
  sized_are_frames ch ts [] h = tt
  sized_are_frames ch ts (f ∷ fs) h =
      (record { size = length_frame_out ts f ∙ h.0; fits = frame_out_fits ts f }, sized_are_frames ch (frame_next tick ts f) fs h.1)

  pub filtered_are_frames : (ch : ℕ) (ts : List Taps) (fs : List Frame) → FramesOf ch fs → FramesOf ch (filtered tick ts fs)
  filtered_are_frames ch ts fs h = sized_are_frames ch ts fs (sizes fs h)
    where
      sizes : (fs : List Frame) → FramesOf ch fs → All (λ (f : Frame). length f ≡ ch) fs
      sizes [] h = tt
      sizes (f ∷ fs) h = (h.0.size, sizes fs h.1)

  -- as many bytes out as in
  pub length_filtered_bytes : (ch : ℕ) (ts : List Taps) (bytes : List ℕ) → length bytes % (ch * 2) ≡ 0 → length (bytes_of (filtered tick ts (frames_of ch bytes))) ≡ length bytes
  length_filtered_bytes ch ts bytes w =
      let sized : All (λ (f : Frame). length f ≡ ch) (frames_of ch bytes) =
      all_by_index (λ (f : Frame). length f ≡ ch) [] (frames_of ch bytes) (λ g h. length_frame ch bytes w g (subst (λ (n : ℕ). g < n) (length_frames ch bytes) h)) in
      let n : length (filtered tick ts (frames_of ch bytes)) ≡ length bytes / (ch * 2) = length_filtered ts (frames_of ch bytes) ∙ length_frames ch bytes in
      length_bytes ch (filtered tick ts (frames_of ch bytes)) (sized_are_frames ch ts (frames_of ch bytes) sized)
      ∙ ap (λ (k : ℕ). k * (ch * 2)) n ∙ omega (arith, div-add-mod' (length bytes) (ch * 2))

pub bytes_cons : (f : Frame) (fs : List Frame) → bytes_of (f ∷ fs) ≡ encode f ++ bytes_of fs
unfolding bytes_of
bytes_cons f fs = encode-append f (flat fs)
