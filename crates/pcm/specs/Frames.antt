-- Sound is a list of frames; a frame has one sample for each channel. Bytes become frames and frames bytes at the edge only.
-- Definitions only.
use Rattle.std.specs.Prelude.{◌≡◌, List, [], ◌∷◌, ◌++◌, ℕ, zero, suc, ◌*◌, ◌/◌, length, take, drop, ℤ}
use Rattle.pcm.specs.Samples.{All, Samples, decode, encode}

abbrev pub Frame : Type 0
Frame = List ℤ

-- the samples of frames, one frame after another
abbrev pub flat : {A : Type 0} → List (List A) → List A
flat [] = []
flat (f ∷ fs) = f ++ flat fs

-- m frames of n samples each
abbrev pub cut : {A : Type 0} → ℕ → ℕ → List A → List (List A)
cut n zero s = []
cut n (suc m) s = take n s ∷ cut n m (drop n s)

-- the whole frames of ch channels that bytes hold
unfoldable pub frames_of : ℕ → List ℕ → List Frame
frames_of ch bytes = cut ch (length bytes / (ch * 2)) (decode bytes)

-- the bytes of frames
unfoldable pub bytes_of : List Frame → List ℕ
bytes_of fs = encode (flat fs)

-- a buffer with `bytes` at its front and the rest as it was
unfoldable pub written : List ℕ → List ℕ → List ℕ
written bytes buffer = bytes ++ drop (length bytes) buffer

-- a frame of ch samples within 16 bits
pub record FrameOf (ch : ℕ) (f : Frame) : Type 0 where
  pub size : length f ≡ ch
  pub fits : Samples f

abbrev pub FramesOf : ℕ → List Frame → Type 0
FramesOf ch fs = All (FrameOf ch) fs
