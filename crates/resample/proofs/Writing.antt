-- Samples and frames written one after another: each goes on where the last one ended. Assumes nothing.
use Rattle.std.specs.Prelude.{◌≡◌, List, [], ◌∷◌, ◌++◌, ℕ, suc, ◌+◌, ◌*◌, ◌<◌, ℤ, length, get_or, set, take, drop}
use Rattle.std.proofs.Common.{sym, ap, ap₂, ◌∙◌, append_assoc, append-nil, add-one, add-zero, arith, length-append, length-take-le, take-append-drop, take_at, drop_at, drop-cons, drop-drop}
use Rattle.std.proofs.Math.Seq.{set-append_seam}
use Rattle.std.specs.List.{splice}
use Rattle.pcm.specs.Samples.{low_of, high_of, encode, stored}
use Rattle.pcm.specs.laws.Samples.{encode-append, length_encode}
use Rattle.pcm.specs.Frames.{Frame, bytes_of, written}
use Rattle.rates.specs.Counting.{tabulate}
use Rattle.rates.specs.laws.Counting.{length_tabulate, tabulate-add}

-- one more at the end of a list by index
pub tabulate_next : {A : Type 0} (n : ℕ) (f : ℕ → A) → tabulate (n + 1) f ≡ tabulate n f ++ f n ∷ []
tabulate_next {A} n f = tabulate-add n 1 f ∙ ap (λ (k : ℕ). tabulate n f ++ f k ∷ []) (add-zero n)

-- ---- one byte, and one sample, past those in the place from i to j
spliced_byte : (o : List ℕ) (i j : ℕ) (ys : List ℕ) (b : ℕ) → j ≡ i + length ys → j < length o → set (splice o i j ys) j b ≡ splice o i (j + 1) (ys ++ b ∷ [])
spliced_byte o i j ys b e h =
    let n : length (take i o ++ ys) ≡ j = length-append (take i o) ys ∙ omega (arith, length-take-le i o (omega arith)) in
    let s : splice o i j ys ≡ (take i o ++ ys) ++ get_or o j 0 ∷ drop (suc j) o = ap (λ (t : List ℕ). take i o ++ (ys ++ t)) (drop-cons o j 0 h) ∙ sym (append_assoc (take i o) ys (get_or o j 0 ∷ drop (suc j) o)) in
    ap₂ (λ (l : List ℕ) (k : ℕ). set l k b) s (sym n) ∙ set-append_seam (take i o ++ ys) (get_or o j 0) (drop (suc j) o) b
    ∙ simp (add-one, append_assoc)

pub spliced_sample : (o : List ℕ) (i j : ℕ) (zs : List ℤ) (z : ℤ) → j ≡ i + length zs * 2 → j + 1 < length o
    → stored (splice o i j (encode zs)) j z ≡ splice o i (j + 2) (encode (zs ++ z ∷ []))
unfolding stored
spliced_sample o i j zs z e h =
    let a : set (splice o i j (encode zs)) j (low_of z) ≡ splice o i (j + 1) (encode zs ++ low_of z ∷ []) = spliced_byte o i j (encode zs) (low_of z) (omega (arith, length_encode zs)) (omega arith) in
    let b : set (splice o i (j + 1) (encode zs ++ low_of z ∷ [])) (j + 1) (high_of z) ≡ splice o i (j + 1 + 1) ((encode zs ++ low_of z ∷ []) ++ high_of z ∷ []) =
    spliced_byte o i (j + 1) (encode zs ++ low_of z ∷ []) (high_of z) (rw length-append (omega (arith, length_encode zs))) h in
    let m : (encode zs ++ low_of z ∷ []) ++ high_of z ∷ [] ≡ encode (zs ++ z ∷ []) = append_assoc (encode zs) (low_of z ∷ []) (high_of z ∷ []) ∙ sym (encode-append zs (z ∷ [])) in
    let n : j + 1 + 1 ≡ j + 2 = omega arith in
    ap (λ (l : List ℕ). set l (j + 1) (high_of z)) a ∙ b ∙ ap₂ (splice o i) n m

-- ---- one frame
pub bytes_one : (f : Frame) → bytes_of (f ∷ []) ≡ encode f
unfolding bytes_of
bytes_one f = ap encode (append-nil f)

-- one block past another at the front of a buffer
pub written_more : (a b o : List ℕ) (i j : ℕ) → length a ≡ i → j ≡ i + length b → splice (written a o) i j b ≡ written (a ++ b) o
unfolding written
written_more a b o i j e h =
    let d : drop j (a ++ drop (length a) o) ≡ drop (length (a ++ b)) o =
    ap (λ (n : ℕ). drop n (a ++ drop (length a) o)) h ∙ sym (drop-drop (length b) i (a ++ drop (length a) o))
    ∙ ap (drop (length b)) (drop_at a (drop (length a) o) i e) ∙ drop-drop (length b) (length a) o ∙ ap (λ (n : ℕ). drop n o) (sym (length-append a b)) in
    ap₂ (λ (x y : List ℕ). x ++ (b ++ y)) (take_at a (drop (length a) o) i e) d ∙ sym (append_assoc a b (drop (length (a ++ b)) o))

module _ (o : List ℕ) (ch k : ℕ) where
  -- none of frame k's samples, and one more
  pub frame_begun : o ≡ splice o (k * (ch * 2)) ((k * ch + 0) * 2) (bytes_of ([] ∷ []))
  frame_begun =
      let e : (k * ch + 0) * 2 ≡ k * (ch * 2) = omega arith in
      sym (ap₂ (λ (j : ℕ) (l : List ℕ). splice o (k * (ch * 2)) j l) e (bytes_one []) ∙ take-append-drop (k * (ch * 2)) o)

  pub frame_next : (c : ℕ) (f : ℕ → ℤ) → (k * ch + c) * 2 + 1 < length o
      → stored (splice o (k * (ch * 2)) ((k * ch + c) * 2) (bytes_of (tabulate c f ∷ []))) ((k * ch + c) * 2) (f c)
      ≡ splice o (k * (ch * 2)) ((k * ch + (c + 1)) * 2) (bytes_of (tabulate (c + 1) f ∷ []))
  frame_next c f h =
      let i : ℕ = k * (ch * 2) in
      let j : ℕ = (k * ch + c) * 2 in
      let n : j + 2 ≡ (k * ch + (c + 1)) * 2 = omega arith in
      ap (λ (l : List ℕ). stored (splice o i j l) j (f c)) (bytes_one (tabulate c f))
      ∙ spliced_sample o i j (tabulate c f) (f c) (omega (arith, length_tabulate c f)) h
      ∙ ap₂ (splice o i) n (ap encode (sym (tabulate_next c f)) ∙ sym (bytes_one (tabulate (c + 1) f)))
