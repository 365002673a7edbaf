-- Laws of the definitions in Notes. Assumes nothing.
use Rattle.std.specs.Prelude.{◌≡◌, refl, Bool, true, false, cond, List, [], ◌∷◌, ◌++◌, map, ℕ, zero, suc, ◌+◌, take, drop}
use Rattle.std.proofs.Common.{sym, ap, ap₂, ◌∙◌, arith, take-append-drop}
use Rattle.std.proofs.Math.Seq.{drop-nil}
use Rattle.pcm.specs.Samples.{All, Bytes}
use Rattle.pcm.specs.Frames.{flat}
use Rattle.recipe.specs.Records.{of_note, length_at, kind_at, records_after, record_here}
use Rattle.recipe.specs.Notes.{note_at, note_here, stage_here}

-- the records, joined, are the bytes
pub records_joined : (pass : ℕ) (bytes : List ℕ) → flat (map record_here (records_after pass bytes)) ≡ drop pass bytes
unfolding records_after
records_joined pass [] = sym (drop-nil {A = ℕ} pass)
records_joined zero (b ∷ left) =
    let n : ℕ = 1 + length_at (b ∷ left) in
    let e : 2 + length_at (b ∷ left) ≡ suc n = omega arith in
    ap₂ (λ (x y : List ℕ). x ++ y) (ap (λ (m : ℕ). take m (b ∷ left)) e) (records_joined n left) ∙ ap (λ (l : List ℕ). b ∷ l) (take-append-drop n left)
records_joined (suc pass) (b ∷ left) = records_joined pass left

-- what is left at each record is bytes too
pub records_bytes : (pass : ℕ) (bytes : List ℕ) → Bytes bytes → All Bytes (records_after pass bytes)
unfolding records_after
records_bytes pass [] h = tt
records_bytes zero (b ∷ left) h = (h, records_bytes (1 + length_at (b ∷ left)) left h.1)
records_bytes (suc pass) (b ∷ left) h = records_bytes pass left h.1

-- where none of the records is a note, none is taken out
pub none_taken_out : (rs : List (List ℕ)) → flat (map note_here rs) ≡ [] → flat (map stage_here rs) ≡ flat (map record_here rs)
none_taken_out [] h = refl
none_taken_out (left ∷ rs) h = go (of_note (kind_at left)) h (none_taken_out rs)
  where
    go : (t : Bool) → cond t (note_at left ∷ []) [] ++ flat (map note_here rs) ≡ []
        → (flat (map note_here rs) ≡ [] → flat (map stage_here rs) ≡ flat (map record_here rs))
        → cond t [] (record_here left) ++ flat (map stage_here rs) ≡ record_here left ++ flat (map record_here rs)
    go true e later = absurd (let z : ◌≡◌ {A = ℕ} 0 1 = cc in let w : ⊥ = omega arith in w)
    go false e later = ap (λ (l : List ℕ). record_here left ++ l) (later e)
