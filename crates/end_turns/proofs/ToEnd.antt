-- A stage's turn at the end, in its two parts: what arrives, and the last frame. Assumes nothing.
use mathlib.Core.Path.{◌≡◌, refl, sym, ap, ap₂, ◌∙◌, subst}
use mathlib.Core.List.{List, [], ◌∷◌, ◌++◌}
use Prim.Native.Nat.{ℕ, ◌+◌, ◌-◌, ◌*◌, ◌/◌, ◌≤◌, ◌<◌}
use native.Mathlib.Nat.{zero-mul}
use native.Mathlib.Omega.{arith}
use lib.ListN.{length, take, drop, get_or, length-append, length-drop}
use mir.Syntax.{w8}
use mir.Val.{Fits}
use borrow.Rule.Slice.PartMut.{put_mid}
use borrow.Author.Rules.{part_to_end}
use Rattle.pcm.specs.declared.PcmFormat.{PcmFormat}
use Rattle.pcm.specs.Frames.{Frame, FrameOf, FramesOf, frames_of, bytes_of, written}
use Rattle.pcm.specs.laws.Samples.{all_by_index}
use Rattle.pcm.specs.laws.Frames.{frames_are_frames, length_frames, length_bytes, frames-nil, bytes-append, all_append, length_written, written-nil}
use Rattle.pcm.specs.laws.Written.{written_part}
use Rattle.stage.specs.declared.Stage.{Stage}
use Rattle.stage.specs.declared.StageKind.{StageKind}
use Rattle.stage.specs.declared.StageKind.TheVariants as kind
use Rattle.stage.specs.declared.SoundMemory.{SoundMemory}
use Rattle.stage.specs.Stages.{stage_out, stage_next, format_after, stage_clipped}
use Rattle.stage.specs.laws.Stages.{stage_out-nil, stage_next-nil, stage_clipped-nil}
use Rattle.stage.specs.Rooms.{frames_out, Served}
use Rattle.stage.specs.laws.Rooms.{stage_count}
use Rattle.turns.specs.Turns.{Makes}
use Rattle.ending.specs.StageEnd.{last_of, stage_end}
use Rattle.ending.specs.laws.StageEnd.{stage_end_count}
use Rattle.end_turns.specs.EndTurns.{Fronted, ServedToEnd, ServesToEnd}

-- bytes are frames
pub bytes_frames : (ch : ℕ) (src : List ℕ) → ((i : ℕ) → Fits w8 (get_or src i 0)) → FramesOf ch (frames_of ch src)
bytes_frames ch src fits = frames_are_frames ch src (all_by_index (λ (b : ℕ). b < 256) 0 src (λ i h. (fits i).fits))

no_bytes : (l : List ℕ) → length l ≡ 0 → l ≡ []
no_bytes [] e = refl
no_bytes (x ∷ l) e = absurd (let z : ⊥ = omega arith in z)

bytes_none : bytes_of [] ≡ []
unfolding bytes_of
bytes_none = refl

-- nothing arrives
pub nothing_arrives : (f : PcmFormat) (s : Stage) (src dst : List ℕ) → length src ≡ 0 → Makes f s s.memory 0 0 src dst dst
nothing_arrives f s src dst e =
    let x : frames_of f.channels src ≡ [] = ap (frames_of f.channels) (no_bytes src e) ∙ frames-nil f.channels in
    let b : bytes_of (stage_out s []) ≡ [] = ap bytes_of (stage_out-nil s) ∙ bytes_none in
    record {
      serves = rw x (record {
        keeps = sym (stage_next-nil s);
        size = sym (ap length b);
        gives = sym (ap (λ (l : List ℕ). written l dst) b ∙ written-nil dst);
        frames = λ a. subst (FramesOf (format_after f s.kind).channels) (sym (stage_out-nil s)) tt;
      });
      holds = sym (ap (stage_clipped s) x ∙ stage_clipped-nil s);
    }

-- the last frame, where there is one, has the channels that arrive
module _ (f : PcmFormat) (m : SoundMemory) where
  last_width : (k : StageKind) → length (last_of f.channels k m) * (f.channels * 2) ≡ length (last_of f.channels k m) * ((format_after f k).channels * 2)
  last_width (kind.Gain g) = refl
  last_width kind.MonoToStereo = zero-mul (f.channels * 2) ∙ sym (zero-mul (2 * 2))
  last_width kind.StereoToMono = zero-mul (f.channels * 2) ∙ sym (zero-mul (1 * 2))
  last_width (kind.Resample r) = refl
  last_width (kind.DcBlock b) = refl
  last_width (kind.Biquad b) = refl

  last_frames : (k : StageKind) → FramesOf f.channels (last_of f.channels k m) → FramesOf (format_after f k).channels (last_of f.channels k m)
  last_frames (kind.Gain g) a = tt
  last_frames kind.MonoToStereo a = tt
  last_frames kind.StereoToMono a = tt
  last_frames (kind.Resample r) a = a
  last_frames (kind.DcBlock b) a = tt
  last_frames (kind.Biquad b) a = tt

module _ (f : PcmFormat) (s : Stage) (src dst : List ℕ) (w : ServedToEnd f s src dst) where
  abbrev xs : List Frame
  xs = frames_of f.channels src

  abbrev width : ℕ
  width = (format_after f s.kind).channels * 2

  abbrev rest : List Frame
  rest = last_of f.channels s.kind (stage_next s xs).memory

  parts : length (stage_end f.channels s xs) ≡ length (stage_out s xs) + length rest
  unfolding stage_end
  parts = length-append (stage_out s xs) rest

  all_fits : length (stage_end f.channels s xs) * width ≤ length dst
  all_fits = rw (stage_end_count f f.channels s xs w.suit, length_frames f.channels src) w.room

  -- something arrives
  pub some_arrives : (length src ≡ 0 → ⊥) → Served f s src dst
  some_arrives z = record {
    suit = w.suit;
    channels = w.channels;
    some = omega arith;
    whole = w.whole;
    room =
        let n : frames_out s.kind s.memory (length src / (f.channels * 2)) ≡ length (stage_out s xs) =
        ap (frames_out s.kind s.memory) (sym (length_frames f.channels src)) ∙ sym (stage_count s xs) in
        rw n (omega (arith, all_fits, ap (λ (k : ℕ). k * width) parts));
  }

  -- then the last frame, from `len` on
  module _ (m : SoundMemory) (len clipped : ℕ) (mid : List ℕ) (v : Makes f s m len clipped src dst mid) (a : FramesOf f.channels xs) where
    abbrev last : List Frame
    last = last_of f.channels s.kind m

    len_is : len ≡ length (stage_out s xs) * width
    len_is = v.serves.size ∙ length_bytes (format_after f s.kind).channels (stage_out s xs) (v.serves.frames a)

    last_is : last ≡ rest
    last_is = ap (λ (t : Stage). last_of f.channels s.kind t.memory) v.serves.keeps

    both_fit : len + length last * width ≤ length dst
    both_fit = omega (arith, len_is, all_fits, ap (λ (k : ℕ). k * width) parts, ap (λ (l : List Frame). length l * width) last_is)

    still_long : length mid ≡ length dst
    still_long = ap length v.serves.gives ∙ length_written (bytes_of (stage_out s xs)) dst (omega (arith, v.serves.size, both_fit))

    pub within : len ≤ length mid
    within = omega (arith, both_fit, still_long)

    pub last_fits : length last * (f.channels * 2) ≤ length (take (length mid - len) (drop len mid))
    last_fits = rw (last_width f m s.kind, part_to_end mid len, length-drop len mid) (omega (arith, both_fit, still_long))

    module _ (n : ℕ) (out : List ℕ) (k : Fronted last (take (length mid - len) (drop len mid)) out n) (g : FramesOf f.channels last) where
      rest_frames : FramesOf (format_after f s.kind).channels last
      rest_frames = last_frames f m s.kind g

      pub size_most : len + n ≤ length dst
      size_most = omega (arith, both_fit, k.size, length_bytes (format_after f s.kind).channels last rest_frames)

      ended_bytes : bytes_of (stage_out s xs) ++ bytes_of last ≡ bytes_of (stage_end f.channels s xs)
      unfolding stage_end
      ended_bytes = sym (bytes-append (stage_out s xs) last) ∙ ap (λ (l : List Frame). bytes_of (stage_out s xs ++ l)) last_is

      pub serves_to_end : ServesToEnd f s xs (len + n) clipped dst (put_mid len (length mid - len) mid out)
      unfolding stage_end
      serves_to_end = record {
        fronted = record {
          size = ap₂ (λ (x y : ℕ). x + y) v.serves.size k.size ∙ sym (length-append (bytes_of (stage_out s xs)) (bytes_of last)) ∙ ap length ended_bytes;
          bytes_are =
              written_part (bytes_of (stage_out s xs)) (bytes_of last) dst mid out len v.serves.size v.serves.gives k.bytes_are
              ∙ ap (λ (l : List ℕ). written l dst) ended_bytes;
        };
        frames = λ b. all_append (FrameOf (format_after f s.kind).channels) (stage_out s xs) rest (v.serves.frames b)
            (subst (FramesOf (format_after f s.kind).channels) last_is rest_frames);
        holds = v.holds;
      }
