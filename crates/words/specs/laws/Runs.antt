-- Laws of runs written from a place on. Assumes nothing.
use Rattle.std.specs.Prelude.{◌≡◌, refl, List, [], ◌∷◌, ◌++◌, ℕ, suc, ◌+◌, ◌≤◌, ◌<◌, length, get_or, take, drop, set}
use Rattle.std.proofs.Common.{sym, ap, ◌∙◌, append_assoc, arith, zero-add, get_or-set_other, get_or-drop, length-take-le, drop_at}
use Rattle.std.proofs.Math.ListN.{get_or-append}
use Rattle.pcm.specs.Frames.{written}
use Rattle.std.proofs.lemmas.List.Edits.{sets, sets-eq}

module _ {A : Type 0} where
  pub sets_append : (a b l : List A) (i : ℕ) → sets l i (a ++ b) ≡ sets (sets l i a) (i + length a) b
  sets_append [] b l i = let e : i + 0 ≡ i = omega arith in rw e
  sets_append (x ∷ a) b l i = let e : suc i + length a ≡ i + suc (length a) = omega arith in sets_append a b (set l i x) (suc i) ∙ ap (λ (n : ℕ). sets (sets (set l i x) (suc i) a) n b) e

  -- words before it and words after it stay
  pub before_run : (vs l : List A) (i j : ℕ) (d : A) → j < i → get_or (sets l i vs) j d ≡ get_or l j d
  before_run [] l i j d h = refl
  before_run (v ∷ vs) l i j d h = before_run vs (set l i v) (suc i) j d (omega arith) ∙ get_or-set_other l i j v d (λ (e : j ≡ i). omega arith)

  pub after_run : (vs l : List A) (i j : ℕ) (d : A) → i + length vs ≤ j → get_or (sets l i vs) j d ≡ get_or l j d
  after_run [] l i j d h = refl
  after_run (v ∷ vs) l i j d h = after_run vs (set l i v) (suc i) j d (omega arith) ∙ get_or-set_other l i j v d (λ (e : j ≡ i). omega arith)

  -- from i on stands the run
  pub from_run : (vs l : List A) (i : ℕ) → i + length vs ≤ length l → drop i (sets l i vs) ≡ vs ++ drop (i + length vs) l
  from_run vs l i h =
      ap (drop i) (sets-eq vs l i h ∙ append_assoc (take i l) vs (drop (i + length vs) l))
      ∙ drop_at (take i l) (vs ++ drop (i + length vs) l) i (length-take-le i l (omega arith))

  -- and its elements are read there
  pub in_run : (vs l : List A) (k n j : ℕ) (d : A) → k + n + length vs ≤ length l → j < length vs → get_or (drop k (sets l (k + n) vs)) (n + j) d ≡ get_or vs j d
  in_run vs l k n j d h i =
      let e : k + (n + j) ≡ k + n + j = omega arith in
      get_or-drop k (sets l (k + n) vs) (n + j) d
      ∙ ap (λ (x : ℕ). get_or (sets l (k + n) vs) x d) e
      ∙ sym (get_or-drop (k + n) (sets l (k + n) vs) j d)
      ∙ ap (λ (x : List A). get_or x j d) (from_run vs l (k + n) h)
      ∙ get_or-append vs (drop (k + n + length vs) l) d j i

  -- other elements from k on stay
  pub below_run : (vs l : List A) (k n j : ℕ) (d : A) → j < n → get_or (drop k (sets l (k + n) vs)) j d ≡ get_or (drop k l) j d
  below_run vs l k n j d h = get_or-drop k (sets l (k + n) vs) j d ∙ before_run vs l (k + n) (k + j) d (omega arith) ∙ sym (get_or-drop k l j d)

  pub above_run : (vs l : List A) (k n j : ℕ) (d : A) → n + length vs ≤ j → get_or (drop k (sets l (k + n) vs)) j d ≡ get_or (drop k l) j d
  above_run vs l k n j d h = get_or-drop k (sets l (k + n) vs) j d ∙ after_run vs l (k + n) (k + j) d (omega arith) ∙ sym (get_or-drop k l j d)

-- a run of bytes from the front on
pub front_run : (bytes out : List ℕ) → length bytes ≤ length out → sets out 0 bytes ≡ written bytes out
unfolding written
front_run bytes out h = sets-eq bytes out 0 (omega arith) ∙ rw zero-add
