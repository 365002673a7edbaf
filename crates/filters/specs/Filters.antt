-- A filter on frames, each channel by its own memory (document 01, 'The whole stream'). A filter is its `tick`: one channel's taps
-- after a sample. Definitions only.
use Rattle.std.specs.Prelude.{◌≡◌, List, [], ◌∷◌, map, ℕ, ◌+◌, ◌*◌, ◌%◌, ◌≤◌, ℤ, length, Float}
use Rattle.filters.specs.declared.Taps.{Taps}
use Rattle.filters.specs.declared.FilterMemory.{FilterMemory}
use Rattle.filters.specs.declared.Filtered.{Filtered}
use Rattle.floats.specs.Operations.{plus_zero}
use Rattle.floats.specs.Rounding.{rounded16, clipped}
use Rattle.pcm.specs.Formats.{OneOrTwo}
use Rattle.pcm.specs.Frames.{Frame, frames_of, bytes_of, written}
use Rattle.counting.specs.Counting.{one}

-- each channel starts with x1, x2, y1, y2 at +0
abbrev pub at_rest : Taps
at_rest = record { x1 = plus_zero; x2 = plus_zero; y1 = plus_zero; y2 = plus_zero }

-- the first of a list, or d where there is none, and the others
abbrev pub first : {A : Type 0} → A → List A → A
first d [] = d
first d (x ∷ xs) = x

abbrev pub others : {A : Type 0} → List A → List A
others [] = []
others (x ∷ xs) = xs

-- the memory of channels that have these taps, and the taps of the channels that a memory has
abbrev pub memory_of_taps : List Taps → FilterMemory
memory_of_taps ts = record { x1 = map (λ t. t.x1) ts; x2 = map (λ t. t.x2) ts; y1 = map (λ t. t.y1) ts; y2 = map (λ t. t.y2) ts }

abbrev pub channel_taps : List Float → List Float → List Float → List Float → List Taps
channel_taps [] x2 y1 y2 = []
channel_taps (x ∷ x1) x2 y1 y2 =
    record { x1 = x; x2 = first plus_zero x2; y1 = first plus_zero y1; y2 = first plus_zero y2 } ∷ channel_taps x1 (others x2) (others y1) (others y2)

abbrev pub taps_of : FilterMemory → List Taps
taps_of m = channel_taps m.x1 m.x2 m.y1 m.y2

abbrev pub memory_at_rest : FilterMemory
memory_at_rest = memory_of_taps (at_rest ∷ at_rest ∷ [])

module _ (tick : Taps → ℤ → Taps) where
  -- a frame: each channel by its own taps; taps past the frame's channels stay
  abbrev pub frame_next : List Taps → Frame → List Taps
  frame_next ts [] = ts
  frame_next ts (x ∷ f) = tick (first at_rest ts) x ∷ frame_next (others ts) f

  -- round_sat16 makes the output of the new y1, which is kept as it is
  abbrev pub frame_out : List Taps → Frame → Frame
  frame_out ts [] = []
  frame_out ts (x ∷ f) = rounded16 (tick (first at_rest ts) x).y1 ∷ frame_out (others ts) f

  -- how many of them it holds back (document 02, Q-2)
  abbrev pub frame_clipped : List Taps → Frame → ℕ
  frame_clipped ts [] = 0
  frame_clipped ts (x ∷ f) = one (clipped (tick (first at_rest ts) x).y1) + frame_clipped (others ts) f

  -- what a filter makes of frames, how many samples it holds back, and the taps afterwards
  abbrev pub filtered : List Taps → List Frame → List Frame
  filtered ts [] = []
  filtered ts (f ∷ fs) = frame_out ts f ∷ filtered (frame_next ts f) fs

  abbrev pub filter_clipped : List Taps → List Frame → ℕ
  filter_clipped ts [] = 0
  filter_clipped ts (f ∷ fs) = frame_clipped ts f + filter_clipped (frame_next ts f) fs

  abbrev pub filter_next : List Taps → List Frame → List Taps
  filter_next ts [] = ts
  filter_next ts (f ∷ fs) = filter_next (frame_next ts f) fs

  -- the memory afterwards
  abbrev pub memory_next : FilterMemory → List Frame → FilterMemory
  memory_next m [] = m
  memory_next m (f ∷ fs) = memory_next (memory_of_taps (frame_next (taps_of m) f)) fs

-- ---- a block of bytes
-- what a call on a block takes: one or two channels, whole frames, and room
pub record FilterBlock (ch : ℕ) (input out : List ℕ) : Type 0 where
  pub channels : OneOrTwo ch
  pub whole : length input % (ch * 2) ≡ 0
  pub room : length input ≤ length out

-- what it gives: the output at the buffer's front, the rest of the buffer as it was, the memory afterwards, and how many samples were held back
pub record FilteredBlock (tick : Taps → ℤ → Taps) (channels : ℕ) (m : FilterMemory) (input out out' : List ℕ) (r : Filtered) : Type 0 where
  pub bytes : out' ≡ written (bytes_of (filtered tick (taps_of m) (frames_of channels input))) out
  pub memory : r.memory ≡ memory_next tick m (frames_of channels input)
  pub clipped : r.clipped ≡ filter_clipped tick (taps_of m) (frames_of channels input)
