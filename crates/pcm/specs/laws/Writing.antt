-- A block written to the front of a buffer, byte by byte and sample by sample. Assumes nothing.
use Rattle.std.specs.Prelude.{◌≡◌, refl, List, [], ◌∷◌, ◌++◌, ℕ, suc, ◌+◌, ◌≤◌, ◌<◌, ℤ, pos, length, take, drop, set, get_or}
use Rattle.std.proofs.Common.{sym, ap, ◌∙◌, subst, append_assoc, add-one, arith, length-set, take-append-drop, drop_of_length-le, take-suc-set, drop-set-lt, drop-cons}
use Rattle.pcm.specs.Samples.{low_of, high_of, encode, stored}
use Rattle.pcm.specs.Frames.{written}

-- the next byte of a block, and what is left after it
pub next_byte : (l : List ℕ) (i : ℕ) → i < length l → drop i l ≡ get_or l i 0 ∷ drop (i + 1) l
next_byte l i h = drop-cons l i 0 h ∙ ap (λ (k : ℕ). get_or l i 0 ∷ drop k l) (sym (add-one i))

-- the bytes of the next sample, and of those after it
pub next_sample : (zs : List ℤ) (k : ℕ) → k < length zs → encode (drop k zs) ≡ low_of (get_or zs k (pos 0)) ∷ high_of (get_or zs k (pos 0)) ∷ encode (drop (k + 1) zs)
next_sample zs k h = ap encode (drop-cons zs k (pos 0) h) ∙ rw add-one

-- `out`, which was `out₀` where the loop began, has its first j bytes written, `rest` is to follow, and from m on it is as it was:
-- at the end it is `goal`
pub record Writing (goal rest : List ℕ) (m : ℕ) (out₀ out : List ℕ) (j : ℕ) : Type 0 where
  pub len : length out ≡ length out₀
  pub is : goal ≡ take j out ++ (rest ++ drop m out)

pub writing_start : (bytes : List ℕ) (m : ℕ) (out : List ℕ) → m ≡ length bytes → Writing (written bytes out) bytes m out out 0
unfolding written
writing_start bytes m out e = record { len = refl; is = ap (λ (n : ℕ). bytes ++ drop n out) (sym e) }

module _ {goal : List ℕ} {m : ℕ} {out₀ out : List ℕ} {j : ℕ} where
  -- nothing is left to write
  pub writing_done : {rest : List ℕ} → Writing goal rest m out₀ out j → rest ≡ [] → j ≡ m → out ≡ goal
  writing_done {rest} r e q = sym (r.is ∙ rw (e, q) (take-append-drop m out))

  pub writing_byte : {rest : List ℕ} {a : ℕ} → Writing goal (a ∷ rest) m out₀ out j → j < m → m ≤ length out₀ → Writing goal rest m out₀ (set out j a) (j + 1)
  writing_byte {rest} {a} r h k = record {
    len = length-set out j a ∙ r.len;
    is = r.is ∙ sym (rw (add-one j, take-suc-set out j a (omega (arith, r.len)), drop-set-lt m out j a h, append_assoc));
  }

  -- what is left to write is put another way
  pub writing_as : {rest rest' : List ℕ} → Writing goal rest m out₀ out j → rest ≡ rest' → Writing goal rest' m out₀ out j
  writing_as r e = subst (λ (l : List ℕ). Writing goal l m out₀ out j) e r

-- one sample more
pub writing_put : {goal rest : List ℕ} {m : ℕ} {out₀ out out' : List ℕ} {j : ℕ} {z y : ℤ}
    → Writing goal (low_of z ∷ high_of z ∷ rest) m out₀ out j → out' ≡ stored out j y → y ≡ z → j + 2 ≤ m → m ≤ length out₀ → Writing goal rest m out₀ out' (j + 2)
unfolding stored
writing_put {goal} {rest} {m} {out₀} {out} {out'} {j} {z} {y} r e q h k =
    let two : Writing goal rest m out₀ (set (set out j (low_of z)) (j + 1) (high_of z)) (j + 1 + 1) = writing_byte (writing_byte r (omega arith) k) (omega arith) k in
    let n : j + 1 + 1 ≡ j + 2 = omega arith in
    subst (λ (i : ℕ). Writing goal rest m out₀ out' i) n
    (subst (λ (l : List ℕ). Writing goal rest m out₀ l (j + 1 + 1)) (sym (e ∙ ap (stored out j) q)) two)

pub next_pair : (l : List ℕ) (i : ℕ) → i + 1 < length l → drop i l ≡ get_or l i 0 ∷ get_or l (i + 1) 0 ∷ drop (i + 2) l
next_pair l i h =
    let n : suc (i + 1) ≡ i + 2 = omega arith in
    drop-cons l i 0 (omega arith) ∙ ap (λ (t : List ℕ). get_or l i 0 ∷ t) (rw (← add-one i, drop-cons l (i + 1) 0 h, n))

-- `rest` is what F makes of what is left to read, and nothing is left
pub writing_end : (F : List ℕ → List ℕ) (l : List ℕ) (i : ℕ) {goal : List ℕ} {m : ℕ} {out₀ out : List ℕ} {j : ℕ}
    → Writing goal (F (drop i l)) m out₀ out j → length l ≤ i → F [] ≡ [] → j ≡ m → out ≡ goal
writing_end F l i r h e q = writing_done r (ap F (drop_of_length-le l h) ∙ e) q
