-- The loop over a block: each frame goes through the taps, and its outputs are written. Assumes nothing.
use Rattle.std.specs.Prelude.{◌≡◌, refl, Bool, true, false, List, [], ◌∷◌, ◌++◌, map, ℕ, ◌+◌, ◌*◌, ◌/◌, ◌≤◌, ◌<◌, ℤ, pos, length, take, drop, set, get_or}
use Rattle.std.specs.Float.{nan}
use Rattle.std.specs.Int.{from_bool}
use Rattle.std.proofs.Common.{sym, ap, ◌∙◌, subst, append_assoc, add-one, arith, length-set, length-take-le, take-append-drop, drop_of_length-le, take-suc-set, drop-set-lt, drop-cons, get_or-take, div-add-mod'}
use Rattle.filters.specs.declared.Taps.{Taps}
use Rattle.filters.specs.declared.FilterMemory.{FilterMemory}
use Rattle.filters.specs.declared.Filtered.{Filtered}
use Rattle.floats.specs.Rounding.{rounded16, clipped}
use Rattle.counting.specs.Counting.{one}
use Rattle.pcm.specs.Samples.{encode, stored, sample_at}
use Rattle.pcm.specs.Frames.{Frame, frames_of, bytes_of, written, flat}
use Rattle.pcm.specs.laws.Samples.{length_decode}
use Rattle.pcm.specs.laws.Frames.{length_frames, length_frame, flat_frames, sample_inside, sample_of_lem}
use Rattle.pcm.specs.laws.Writing.{Writing, writing_start, writing_put, writing_as, writing_done}
use Rattle.filters.specs.Filters.{at_rest, first, others, memory_of_taps, taps_of, frame_next, frame_out, frame_clipped, filtered, filter_clipped, filter_next, memory_next, FilterBlock, FilteredBlock}
use Rattle.filters.specs.laws.Filters.{bytes_cons, TwoChannels, memory_held, taps_held, next_of_taps, filter_clipped_le, length_filtered_bytes}

-- what an index past the taps would give
abbrev pub none : Taps
none = record { x1 = nan; x2 = nan; y1 = nan; y2 = nan }

-- ---- a frame through the taps: of the frame f, the channels below c have had their samples, which took the taps from ts to us
pub record Ticking (tick : Taps → ℤ → Taps) (ts : List Taps) (f : Frame) (us : List Taps) (c : ℕ) : Type 0 where
  pub two : length us ≡ 2
  pub next : frame_next tick ts f ≡ take c us ++ frame_next tick (drop c us) (drop c f)

module _ {tick : Taps → ℤ → Taps} {ts : List Taps} {f : Frame} where
  pub ticking_start : length ts ≡ 2 → Ticking tick ts f ts 0
  ticking_start h = record { two = h; next = refl }

  module _ {us : List Taps} {c : ℕ} (r : Ticking tick ts f us c) where
    -- the next sample x takes its channel's taps to t
    pub ticking_sample : {x : ℤ} {t : Taps} → drop c f ≡ x ∷ drop (c + 1) f → c < 2 → t ≡ tick (get_or us c none) x → Ticking tick ts f (set us c t) (c + 1)
    ticking_sample {x} {t} e h k =
        let l : c < length us = omega (arith, r.two) in
        let d : drop c us ≡ get_or us c none ∷ drop (c + 1) us = rw (add-one c) (drop-cons us c none l) in
        let u : take (c + 1) (set us c t) ≡ take c us ++ (t ∷ []) = rw (add-one c) (take-suc-set us c t l) in
        let v : drop (c + 1) (set us c t) ≡ drop (c + 1) us = drop-set-lt (c + 1) us c t (omega arith) in
        record { two = length-set us c t ∙ r.two; next = r.next ∙ rw (e, d, u, v, append_assoc, k) refl }

    pub ticking_end : drop c f ≡ [] → frame_next tick ts f ≡ us
    ticking_end e = r.next ∙ ap (λ (g : Frame). take c us ++ frame_next tick (drop c us) g) e ∙ take-append-drop c us

-- ---- outputs of taps, and how many of them are held back
abbrev pub outputs : List Taps → Frame
outputs ts = map (λ t. rounded16 t.y1) ts

abbrev pub held_back : List Taps → ℕ
held_back [] = 0
held_back (t ∷ ts) = one (clipped t.y1) + held_back ts

frame_outputs : (tick : Taps → ℤ → Taps) (ts : List Taps) (f : Frame) → frame_out tick ts f ≡ outputs (take (length f) (frame_next tick ts f))
frame_outputs tick ts [] = refl
frame_outputs tick ts (x ∷ f) = ap (λ (g : Frame). rounded16 (tick (first at_rest ts) x).y1 ∷ g) (frame_outputs tick (others ts) f)

frame_held_back : (tick : Taps → ℤ → Taps) (ts : List Taps) (f : Frame) → frame_clipped tick ts f ≡ held_back (take (length f) (frame_next tick ts f))
frame_held_back tick ts [] = refl
frame_held_back tick ts (x ∷ f) = ap (λ (n : ℕ). one (clipped (tick (first at_rest ts) x).y1) + n) (frame_held_back tick (others ts) f)

counted_one : (b : Bool) → from_bool b ≡ one b
counted_one true = refl
counted_one false = refl

-- ---- the block: of the frames fs, those before `rest` took the taps to ts, and their outputs are written but for those of the taps
-- `todo`: j bytes, of which n samples were held back. The filter's output of `rest` is then left to write, and its count to be added
pub record Filtering (tick : Taps → ℤ → Taps) (ts₀ : List Taps) (fs : List Frame) (m : ℕ) (out₀ : List ℕ) (ts : List Taps) (out : List ℕ) (n j : ℕ) (todo : List Taps) (rest : List Frame) : Type 0 where
  pub two : length ts ≡ 2
  pub output : Writing (written (bytes_of (filtered tick ts₀ fs)) out₀) (encode (outputs todo) ++ bytes_of (filtered tick ts rest)) m out₀ out j
  pub kept : filter_next tick ts₀ fs ≡ filter_next tick ts rest
  pub counted : filter_clipped tick ts₀ fs ≡ n + (held_back todo + filter_clipped tick ts rest)

module _ {tick : Taps → ℤ → Taps} {ts₀ : List Taps} {fs : List Frame} {m : ℕ} {out₀ : List ℕ} {ts : List Taps} {out : List ℕ} {n j : ℕ} {rest : List Frame} where
  -- a frame f of ch samples took the taps to us
  pub filtering_frame : {ch : ℕ} {f : Frame} {us : List Taps} {fs' : List Frame}
      → Filtering tick ts₀ fs m out₀ ts out n j [] fs' → fs' ≡ f ∷ rest → length f ≡ ch → frame_next tick ts f ≡ us → length us ≡ 2
      → Filtering tick ts₀ fs m out₀ us out n j (take ch us) rest
  filtering_frame {ch} {f} {us} r e h k two =
      let o : frame_out tick ts f ≡ outputs (take ch us) = frame_outputs tick ts f ∙ rw (h, k) refl in
      let b : frame_clipped tick ts f ≡ held_back (take ch us) = frame_held_back tick ts f ∙ rw (h, k) refl in
      record {
        two = two;
        output = writing_as r.output (ap (λ (l : List Frame). bytes_of (filtered tick ts l)) e ∙ bytes_cons _ _ ∙ rw (o, k) refl);
        kept = r.kept ∙ ap (filter_next tick ts) e ∙ ap (λ (l : List Taps). filter_next tick l rest) k;
        counted = omega (arith, r.counted, ap (filter_clipped tick ts) e, b, ap (λ (l : List Taps). filter_clipped tick l rest) k);
      }

  -- one output more, that of t
  pub filtering_sample : {t : Taps} {y : ℤ} {todo todo' : List Taps} {out' : List ℕ} {b : ℕ}
      → Filtering tick ts₀ fs m out₀ ts out n j todo rest → todo ≡ t ∷ todo' → out' ≡ stored out j y → y ≡ rounded16 t.y1 → b ≡ from_bool (clipped t.y1)
      → j + 2 ≤ m → m ≤ length out₀ → Filtering tick ts₀ fs m out₀ ts out' (n + b) (j + 2) todo' rest
  filtering_sample {t} r e p q z in_m room = record {
    two = r.two;
    output = writing_put (writing_as r.output (ap (λ (l : List Taps). encode (outputs l) ++ bytes_of (filtered tick ts rest)) e)) p q in_m room;
    kept = r.kept;
    counted = omega (arith, r.counted, ap held_back e, z, counted_one (clipped t.y1));
  }

  module _ {todo : List Taps} (r : Filtering tick ts₀ fs m out₀ ts out n j todo rest) where
    -- as many samples are counted as fit
    pub filtering_fits : n ≤ length (flat fs)
    filtering_fits = omega (arith, r.counted, filter_clipped_le tick ts₀ fs)

    -- the same place and the same outputs told another way
    pub filtering_at : {j' : ℕ} {todo' : List Taps} → j ≡ j' → todo ≡ todo' → Filtering tick ts₀ fs m out₀ ts out n j' todo' rest
    filtering_at {j'} {todo'} e q =
        subst (λ (i : ℕ). Filtering tick ts₀ fs m out₀ ts out n i todo' rest) e (subst (λ (l : List Taps). Filtering tick ts₀ fs m out₀ ts out n j l rest) q r)

-- ---- the frame k of a block, and its sample c
module _ {channels : ℕ} {input out : List ℕ} (b : FilterBlock channels input out) where
  pub whole_length : length input / (channels * 2) * (channels * 2) ≡ length input
  whole_length = let w = b.whole in omega (arith, div-add-mod' (length input) (channels * 2))

  module _ (k : ℕ) (h : k < length input / (channels * 2)) where
    pub next_frame : drop k (frames_of channels input) ≡ get_or (frames_of channels input) k [] ∷ drop (k + 1) (frames_of channels input)
    next_frame = rw (add-one k) (drop-cons (frames_of channels input) k [] (omega (arith, length_frames channels input)))

    pub frame_length : length (get_or (frames_of channels input) k []) ≡ channels
    frame_length = length_frame channels input b.whole k h

    pub frame_done : drop channels (get_or (frames_of channels input) k []) ≡ []
    frame_done = drop_of_length-le (get_or (frames_of channels input) k []) (omega (arith, frame_length))

    module _ (c : ℕ) (l : c < channels) where
      pub next_sample : drop c (get_or (frames_of channels input) k []) ≡ sample_at input ((k * channels + c) * 2) ∷ drop (c + 1) (get_or (frames_of channels input) k [])
      next_sample = rw (add-one c, ← sample_of_lem channels input b.whole k c h l) (drop-cons (get_or (frames_of channels input) k []) c (pos 0) (omega (arith, frame_length)))

      pub next_inside : (k * channels + c) * 2 + 2 ≤ length input
      next_inside = omega (arith, sample_inside channels input b.whole k c h l)

  -- past the last frame
  pub block_done : (k : ℕ) → length input / (channels * 2) ≤ k → drop k (frames_of channels input) ≡ []
  block_done k h = drop_of_length-le (frames_of channels input) (omega (arith, length_frames channels input))

  -- the samples of a block are half as many as its bytes
  pub block_samples : length (flat (frames_of channels input)) ≤ length input
  block_samples = rw (flat_frames channels input b.whole, length_decode input) (omega arith)

-- the taps of the channels from c on, which are not past the last
pub next_taps : (ch c : ℕ) (ts : List Taps) → c < ch → ch ≤ length ts → drop c (take ch ts) ≡ get_or ts c none ∷ drop (c + 1) (take ch ts)
next_taps ch c ts h l = rw (add-one c, ← get_or-take ch ts c none h) (drop-cons (take ch ts) c none (rw (length-take-le ch ts l) h))

pub taps_done : (ch : ℕ) (ts : List Taps) → ch ≤ length ts → drop ch (take ch ts) ≡ []
taps_done ch ts l = drop_of_length-le (take ch ts) (omega (arith, length-take-le ch ts l))

-- ---- where the loop starts and where it ends
module _ {tick : Taps → ℤ → Taps} {channels : ℕ} {memory : FilterMemory} {input out₀ : List ℕ} (b : FilterBlock channels input out₀) (two : TwoChannels memory) where
  pub filtering_start : Filtering tick (taps_of memory) (frames_of channels input) (length input) out₀ (taps_of memory) out₀ 0 (0 * channels * 2) [] (frames_of channels input)
  filtering_start =
      let from_none : 0 ≡ 0 * channels * 2 = omega arith in
      filtering_at (record {
        two = rw (taps_held memory two) refl;
        output = writing_start _ (length input) out₀ (sym (length_filtered_bytes tick channels (taps_of memory) input b.whole));
        kept = refl;
        counted = omega arith;
      }) from_none refl

  -- every frame is done: the output is written, the memory is that afterwards, and the count is whole
  pub filtering_end : {out : List ℕ} {ts : List Taps} {n k : ℕ} {a : Filtered}
      → Filtering tick (taps_of memory) (frames_of channels input) (length input) out₀ ts out n (k * channels * 2) [] (drop k (frames_of channels input))
      → k ≡ length input / (channels * 2) → a.memory ≡ memory_of_taps ts → a.clipped ≡ n → FilteredBlock tick channels memory input out₀ out a
  unfolding bytes_of
  filtering_end {out} {ts} {n} {k} {a} r e p q =
      let none_left : drop k (frames_of channels input) ≡ [] = block_done b k (omega arith) in
      let at_end : k * channels * 2 ≡ length input = rw e (omega (arith, whole_length b)) in
      let held : memory_of_taps (taps_of memory) ≡ memory = ap memory_of_taps (taps_held memory two) ∙ memory_held memory two in
      let last : ts ≡ filter_next tick (taps_of memory) (frames_of channels input) = sym (r.kept ∙ ap (filter_next tick ts) none_left) in
      record {
        bytes = writing_done r.output (ap (λ (fs : List Frame). bytes_of (filtered tick ts fs)) none_left) at_end;
        memory = p ∙ ap memory_of_taps last ∙ sym (next_of_taps tick (taps_of memory) (frames_of channels input)) ∙ ap (λ (m : FilterMemory). memory_next tick m (frames_of channels input)) held;
        clipped = omega (arith, q, r.counted, ap (filter_clipped tick ts) none_left);
      }
