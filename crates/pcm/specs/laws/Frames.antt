-- Bytes to frames and back, and buffers written at the front. Assumes nothing.
use Rattle.std.specs.Prelude.{◌≡◌, ℕ, zero, suc, ◌+◌, ◌*◌, ◌/◌, ◌%◌, ◌≤◌, ◌<◌, length, get_or, take, drop, ℤ, pos}
use Rattle.std.proofs.Math.Path.{refl, ap}
use Rattle.std.proofs.Common.{sym, ap₂, ◌∙◌, le_of_suc-le-suc, not-suc-le-zero, div-add-mod', mul-le-mul_right, zero-add, suc-add, mul-div_cancel, length-append, length-drop, take-append-drop, length-take-le, get_or-take, get_or-drop, take_at, drop_at, SFits}
use mathlib.Core.List.{List, [], ◌∷◌, ◌++◌, map, append_assoc}
use Rattle.std.proofs.Math.Nat.{mul-add-div_right, zero-div}
use native.Mathlib.Omega.{arith}
use Rattle.std.proofs.lemmas.List.{take-append-le, drop-append-le}
use Rattle.std.specs.Int.{w16}
use Rattle.pcm.specs.Samples.{All, Bytes, Samples, sample_of, sample_at, decode, encode}
use Rattle.pcm.specs.laws.Samples.{decode_fits, decode-encode, encode-decode, encode-append, decode-append, length_encode, length_decode, get_or_decode}
use Rattle.pcm.specs.Frames.{Frame, flat, cut, frames_of, bytes_of, written, FramesOf}

-- ---- lists of lists
pub all_append : {A : Type 0} (P : A → Type 0) (xs ys : List A) → All P xs → All P ys → All P (xs ++ ys)
all_append P [] ys h k = k
all_append P (x ∷ xs) ys h k = (h.0, all_append P xs ys h.1 k)

pub all_take : {A : Type 0} (P : A → Type 0) (n : ℕ) (xs : List A) → All P xs → All P (take n xs)
all_take P zero xs h = tt
all_take P (suc n) [] h = tt
all_take P (suc n) (x ∷ xs) h = (h.0, all_take P n xs h.1)

pub all_drop : {A : Type 0} (P : A → Type 0) (n : ℕ) (xs : List A) → All P xs → All P (drop n xs)
all_drop P zero xs h = h
all_drop P (suc n) [] h = tt
all_drop P (suc n) (x ∷ xs) h = all_drop P n xs h.1

pub all_map : {A B : Type 0} (P : A → Type 0) (Q : B → Type 0) (g : A → B) → ((x : A) → P x → Q (g x)) → (xs : List A) → All P xs → All Q (map g xs)
all_map P Q g h [] a = tt
all_map P Q g h (x ∷ xs) a = (h x a.0, all_map P Q g h xs a.1)

pub map_append : {A B : Type 0} (g : A → B) (xs ys : List A) → map g (xs ++ ys) ≡ map g xs ++ map g ys
map_append g [] ys = refl
map_append {A} {B} g (x ∷ xs) ys = ap (λ (r : List B). g x ∷ r) (map_append g xs ys)

pub flat_append : {A : Type 0} (xs ys : List (List A)) → flat (xs ++ ys) ≡ flat xs ++ flat ys
flat_append [] ys = refl
flat_append {A} (x ∷ xs) ys = ap (λ (r : List A). x ++ r) (flat_append xs ys) ∙ sym (append_assoc x (flat xs) (flat ys))

pub length_cut : {A : Type 0} (n m : ℕ) (s : List A) → length (cut n m s) ≡ m
length_cut n zero s = refl
length_cut n (suc m) s = ap suc (length_cut n m (drop n s))

pub length_flat : {A : Type 0} (n : ℕ) (fs : List (List A)) → All (λ f. length f ≡ n) fs → length (flat fs) ≡ length fs * n
length_flat n [] h = omega arith
length_flat n (f ∷ fs) h = length-append f (flat fs) ∙ omega (arith, length_flat n fs h.1, h.0)

pub flat-cut : {A : Type 0} (n m : ℕ) (s : List A) → length s ≡ m * n → flat (cut n m s) ≡ s
flat-cut n zero [] h = refl
flat-cut n zero (x ∷ s) h = absurd (let z : ⊥ = omega arith in z)
flat-cut {A} n (suc m) s h = ap (λ (r : List A). take n s ++ r) (flat-cut n m (drop n s) (length-drop n s ∙ omega arith)) ∙ take-append-drop n s

pub cut-flat : {A : Type 0} (n : ℕ) (fs : List (List A)) → All (λ f. length f ≡ n) fs → cut n (length fs) (flat fs) ≡ fs
cut-flat n [] h = refl
cut-flat {A} n (f ∷ fs) h =
    ap₂ (λ (a : List A) (r : List (List A)). a ∷ r) (take_at f (flat fs) n h.0) (ap (cut n (length fs)) (drop_at f (flat fs) n h.0) ∙ cut-flat n fs h.1)

cut-append : {A : Type 0} (n a b : ℕ) (s t : List A) → length s ≡ a * n → cut n (a + b) (s ++ t) ≡ cut n a s ++ cut n b t
cut-append n zero b [] t h = rw zero-add
cut-append n zero b (x ∷ s) t h = absurd (let z : ⊥ = omega arith in z)
cut-append {A} n (suc a) b s t h =
    let l : n ≤ length s = omega arith in
    rw suc-add (ap₂ (λ (f : List A) (r : List (List A)). f ∷ r) (take-append-le n s t l) (ap (cut n (a + b)) (drop-append-le n s t l) ∙ cut-append n a b (drop n s) t (length-drop n s ∙ omega arith)))

-- sample c of frame i is sample i * n + c
get_or_cut : {A : Type 0} (n m : ℕ) (s : List A) (i c : ℕ) (d : A) → i < m → c < n → get_or (get_or (cut n m s) i []) c d ≡ get_or s (i * n + c) d
get_or_cut n zero s i c d h k = absurd (not-suc-le-zero h)
get_or_cut n (suc m) s zero c d h k = let e : zero * n + c ≡ c = omega arith in rw e (get_or-take n s c d k)
get_or_cut n (suc m) s (suc i) c d h k =
    let e : suc i * n + c ≡ n + (i * n + c) = omega arith in
    rw e (get_or_cut n m (drop n s) i c d (le_of_suc-le-suc h) k ∙ get_or-drop n s (i * n + c) d)

length_cut_at : {A : Type 0} (n m : ℕ) (s : List A) (i : ℕ) → m * n ≤ length s → i < m → length (get_or (cut n m s) i []) ≡ n
length_cut_at n zero s i h k = absurd (not-suc-le-zero k)
length_cut_at n (suc m) s zero h k = length-take-le n s (omega arith)
length_cut_at n (suc m) s (suc i) h k = length_cut_at n m (drop n s) i (simp length-drop (omega arith)) (le_of_suc-le-suc k)

-- ---- frames of bytes
pub length_frames : (ch : ℕ) (bytes : List ℕ) → length (frames_of ch bytes) ≡ length bytes / (ch * 2)
unfolding frames_of
length_frames ch bytes = length_cut ch (length bytes / (ch * 2)) (decode bytes)

pub frames-append : (ch : ℕ) (x y : List ℕ) → 0 < ch → length x % (ch * 2) ≡ 0 → frames_of ch (x ++ y) ≡ frames_of ch x ++ frames_of ch y
unfolding frames_of
frames-append ch x y hc w =
    let e : length x ≡ length x / (ch * 2) * (ch * 2) = omega (arith, div-add-mod' (length x) (ch * 2)) in
    let q : length (x ++ y) / (ch * 2) ≡ length x / (ch * 2) + length y / (ch * 2) =
    ap (λ (n : ℕ). n / (ch * 2)) (length-append x y ∙ ap (λ (n : ℕ). n + length y) e) ∙ mul-add-div_right (omega arith) (length x / (ch * 2)) (length y) in
    ap₂ (λ (n : ℕ) (l : List ℤ). cut ch n l) q (decode-append x y (omega (arith, e)))
    ∙ cut-append ch (length x / (ch * 2)) (length y / (ch * 2)) (decode x) (decode y) (length_decode x ∙ omega (arith, e))

-- the next frame of one channel, and of two
one_mono : (a b : ℕ) → frames_of 1 (a ∷ b ∷ []) ≡ (sample_of a b ∷ []) ∷ []
unfolding frames_of
one_mono a b = refl

pub frames_mono : (a b : ℕ) (rest : List ℕ) → frames_of 1 (a ∷ b ∷ rest) ≡ (sample_of a b ∷ []) ∷ frames_of 1 rest
frames_mono a b rest = frames-append 1 (a ∷ b ∷ []) rest (omega arith) refl ∙ ap (λ (l : List Frame). l ++ frames_of 1 rest) (one_mono a b)

one_stereo : (a b c d : ℕ) → frames_of 2 (a ∷ b ∷ c ∷ d ∷ []) ≡ (sample_of a b ∷ sample_of c d ∷ []) ∷ []
unfolding frames_of
one_stereo a b c d = refl

pub frames_stereo : (a b c d : ℕ) (rest : List ℕ) → frames_of 2 (a ∷ b ∷ c ∷ d ∷ rest) ≡ (sample_of a b ∷ sample_of c d ∷ []) ∷ frames_of 2 rest
frames_stereo a b c d rest = frames-append 2 (a ∷ b ∷ c ∷ d ∷ []) rest (omega arith) refl ∙ ap (λ (l : List Frame). l ++ frames_of 2 rest) (one_stereo a b c d)

pub frames-nil : (ch : ℕ) → frames_of ch [] ≡ []
unfolding frames_of
frames-nil ch = ap (λ (n : ℕ). cut ch n []) (zero-div (ch * 2))

module _ (ch : ℕ) (bytes : List ℕ) (whole : length bytes % (ch * 2) ≡ 0) where
  whole_is : length bytes ≡ length bytes / (ch * 2) * (ch * 2)
  whole_is = omega (arith, div-add-mod' (length bytes) (ch * 2))

  pub length_frame : (g : ℕ) → g < length bytes / (ch * 2) → length (get_or (frames_of ch bytes) g []) ≡ ch
  unfolding frames_of
  length_frame g h = length_cut_at ch (length bytes / (ch * 2)) (decode bytes) g (rw (length_decode bytes) (omega (arith, whole_is))) h

  module _ (g c : ℕ) (h : g < length bytes / (ch * 2)) (k : c < ch) where
    sample_before : g * ch + c < length bytes / (ch * 2) * ch
    sample_before = omega (arith, mul-le-mul_right ch h)

    pub sample_inside : (g * ch + c) * 2 + 1 < length bytes
    sample_inside = omega (arith, whole_is, sample_before)

    pub sample_of_lem : get_or (get_or (frames_of ch bytes) g []) c (pos 0) ≡ sample_at bytes ((g * ch + c) * 2)
    unfolding frames_of
    sample_of_lem =
        let e : 2 * (g * ch + c) ≡ (g * ch + c) * 2 = omega arith in
        get_or_cut ch (length bytes / (ch * 2)) (decode bytes) g c (pos 0) h k ∙ get_or_decode bytes (g * ch + c) (pos 0) (omega (arith, sample_inside)) ∙ ap (sample_at bytes) e

  -- the samples of the frames are those of the bytes
  pub flat_frames : flat (frames_of ch bytes) ≡ decode bytes
  unfolding frames_of
  flat_frames = flat-cut ch (length bytes / (ch * 2)) (decode bytes) (length_decode bytes ∙ omega (arith, whole_is))

  -- whole frames of bytes, there and back
  pub bytes_frames : Bytes bytes → bytes_of (frames_of ch bytes) ≡ bytes
  unfolding frames_of bytes_of
  bytes_frames b =
      ap encode (flat-cut ch (length bytes / (ch * 2)) (decode bytes) (length_decode bytes ∙ omega (arith, whole_is))) ∙ encode-decode bytes (omega (arith, whole_is)) b

  -- a stage that takes each sample by itself takes each frame by itself
  pub samplewise : (g : ℤ → ℤ) → encode (map g (decode bytes)) ≡ bytes_of (map (map g) (frames_of ch bytes))
  unfolding frames_of bytes_of
  samplewise g =
      ap (λ (l : List ℤ). encode (map g l)) (sym (flat-cut ch (length bytes / (ch * 2)) (decode bytes) (length_decode bytes ∙ omega (arith, whole_is))))
      ∙ ap encode (flat_map (cut ch (length bytes / (ch * 2)) (decode bytes)))
    where
      flat_map : (fs : List Frame) → map g (flat fs) ≡ flat (map (map g) fs)
      flat_map [] = refl
      flat_map (f ∷ fs) = map_append g f (flat fs) ∙ ap (λ (r : List ℤ). map g f ++ r) (flat_map fs)

cut_frames : (n m : ℕ) (s : List ℤ) → m * n ≤ length s → Samples s → FramesOf n (cut n m s)
cut_frames n zero s h a = tt
cut_frames n (suc m) s h a =
    (record { size = length-take-le n s (omega arith); fits = all_take (SFits w16) n s a }, cut_frames n m (drop n s) (simp length-drop (omega arith)) (all_drop (SFits w16) n s a))

-- the frames of bytes are frames of samples
pub frames_are_frames : (ch : ℕ) (bytes : List ℕ) → Bytes bytes → FramesOf ch (frames_of ch bytes)
unfolding frames_of
frames_are_frames ch bytes b =
    cut_frames ch (length bytes / (ch * 2)) (decode bytes) (rw (length_decode bytes) (omega (arith, div-add-mod' (length bytes) (ch * 2)))) (decode_fits bytes b)

-- ---- bytes of frames
sizes : (ch : ℕ) (fs : List Frame) → FramesOf ch fs → All (λ (f : Frame). length f ≡ ch) fs
sizes ch [] h = tt
sizes ch (f ∷ fs) h = (h.0.size, sizes ch fs h.1)

samples_fit : (ch : ℕ) (fs : List Frame) → FramesOf ch fs → Samples (flat fs)
samples_fit ch [] h = tt
samples_fit ch (f ∷ fs) h = all_append (SFits w16) f (flat fs) h.0.fits (samples_fit ch fs h.1)

-- the length of the bytes needs the frames' sizes only
pub length_bytes_sized : (ch : ℕ) (fs : List Frame) → All (λ (f : Frame). length f ≡ ch) fs → length (bytes_of fs) ≡ length fs * (ch * 2)
unfolding bytes_of
length_bytes_sized ch fs h = length_encode (flat fs) ∙ omega (arith, length_flat ch fs h)

pub length_bytes : (ch : ℕ) (fs : List Frame) → FramesOf ch fs → length (bytes_of fs) ≡ length fs * (ch * 2)
length_bytes ch fs h = length_bytes_sized ch fs (sizes ch fs h)

-- what one stage writes the next reads
pub frames_bytes : (ch : ℕ) (fs : List Frame) → 0 < ch → FramesOf ch fs → frames_of ch (bytes_of fs) ≡ fs
unfolding frames_of bytes_of
frames_bytes ch fs hc h =
    let q : length (encode (flat fs)) / (ch * 2) ≡ length fs = ap (λ (n : ℕ). n / (ch * 2)) (length_bytes ch fs h) ∙ mul-div_cancel (length fs) (omega arith) in
    ap₂ (λ (n : ℕ) (l : List ℤ). cut ch n l) q (decode-encode (flat fs) (samples_fit ch fs h)) ∙ cut-flat ch fs (sizes ch fs h)

pub bytes-append : (xs ys : List Frame) → bytes_of (xs ++ ys) ≡ bytes_of xs ++ bytes_of ys
unfolding bytes_of
bytes-append xs ys = ap encode (flat_append xs ys) ∙ encode-append (flat xs) (flat ys)

-- ---- buffers
pub length_written : (bytes buffer : List ℕ) → length bytes ≤ length buffer → length (written bytes buffer) ≡ length buffer
unfolding written
length_written bytes buffer h = length-append bytes (drop (length bytes) buffer) ∙ omega (arith, length-drop (length bytes) buffer)

pub front_written : (bytes buffer : List ℕ) (n : ℕ) → n ≡ length bytes → take n (written bytes buffer) ≡ bytes
unfolding written
front_written bytes buffer n e = take_at bytes (drop (length bytes) buffer) n (sym e)

pub written-nil : (buffer : List ℕ) → written [] buffer ≡ buffer
unfolding written
written-nil [] = refl
written-nil (x ∷ l) = refl
