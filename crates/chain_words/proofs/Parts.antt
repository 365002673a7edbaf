-- Words that are copied over a run of a chain's, and a chain's array. Assumes nothing.
use mathlib.Core.Path.{◌≡◌, sym, ap, ◌∙◌}
use mathlib.Core.List.{List, [], ◌∷◌, ◌++◌, append_assoc}
use Prim.Native.Nat.{ℕ, zero, suc, ◌+◌, ◌≤◌, ◌<◌}
use native.Mathlib.Numerals.{add-one}
use native.Mathlib.Omega.{arith}
use borrow.Rule.Slice.PartMut.{put_mid}
use lib.ListN.{length, get_or, take, drop}
use lib.Seq.{sets, sets-eq, drop-drop}
use Rattle.pcm.specs.Samples.{All}
use Rattle.pcm.specs.Frames.{written}

-- words that are copied over a run of as many
pub run_copied : (vs w : List ℕ) (i k : ℕ) → length vs ≡ k → i + k ≤ length w → put_mid i k w vs ≡ sets w i vs
run_copied vs w i k e h =
    let n : i + length vs ≤ length w = omega arith in
    sym (sets-eq vs w i n ∙ append_assoc (take i w) vs (drop (i + length vs) w) ∙ ap (λ (x : List ℕ). take i w ++ (vs ++ x)) (ap (λ (n : ℕ). drop (i + n) w) e ∙ sym (drop-drop k i w)))

pub all_next : {A : Type 0} (P : A → Type 0) (l : List A) (i : ℕ) (d : A) → i < length l → All P (take i l) → P (get_or l i d) → All P (take (i + 1) l)
all_next {A} P l i d h a p = rw add-one (go l i h a p)
  where
    go : (l : List A) (i : ℕ) → i < length l → All P (take i l) → P (get_or l i d) → All P (take (suc i) l)
    go [] i h a p = tt
    go (x ∷ l) zero h a p = (p, tt)
    go (x ∷ l) (suc i) h a p = (a.0, go l i (omega arith) a.1 p)

-- a run from the first word on stands at the front
pub whole_run : (vs w : List ℕ) → length vs ≤ length w → sets w 0 vs ≡ written vs w
unfolding written
whole_run vs w h = let e : 0 + length vs ≡ length vs = omega arith in sets-eq vs w 0 (omega arith) ∙ ap (λ (n : ℕ). vs ++ drop n w) e
