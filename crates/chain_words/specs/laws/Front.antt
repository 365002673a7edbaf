-- Laws of more words than a chain's: those past it stand for nothing, and stay. Assumes nothing.
use Rattle.std.specs.Prelude.{◌≡◌, refl, Bool, true, false, ◌&&◌, List, [], ◌∷◌, ◌++◌, ℕ, zero, suc, ◌+◌, ◌-◌, ◌*◌, ◌≤◌, ◌<◌, leb, length, take, drop, set}
use Rattle.std.proofs.Common.{sym, ap, ap₂, ◌∙◌, arith, get_or-drop, le-leb, leb-true, length-append, length-take-le}
use Rattle.std.proofs.Math.Decide.{dec_lt}
use Rattle.std.proofs.Math.ListN.{get_or-append}
use Rattle.std.proofs.Math.Seq.{length-sets}
use Rattle.std.proofs.lemmas.List.{set-append_left, get_or-append_right, length-set, take-append-drop}
use Rattle.std.proofs.lemmas.List.Edits.{sets}
use Rattle.stage.specs.declared.Stage.{Stage}
use Rattle.recipe.specs.Records.{of_stage}
use Rattle.stage_words.specs.Layout.{memory_words, word}
use Rattle.stage_words.specs.laws.Reading.{length_memory, stage_same}
use Rattle.chain_words.specs.Kept.{kept_words, with_sound, SettingsStay}
use Rattle.chain_words.specs.Layout.{counter_words, place_of, stage_at, chain_at, kinds_known, stands, chain_of_words}
use Rattle.chain_words.specs.laws.Keeping.{length_kept}

module _ (rest : List ℕ) where
  -- ---- the chain is that of the first 152
  module _ (x : List ℕ) (n : length x ≡ 152) where
    abbrev more : List ℕ
    more = x ++ rest

    front : (j : ℕ) → j < 152 → word more j ≡ word x j
    front j h = get_or-append x rest 0 j (omega arith)

    past : (j : ℕ) → 152 ≤ j → word more j ≡ word rest (j - 152)
    past j h = get_or-append_right x rest 152 j 0 n h

    same_stage : (i : ℕ) → i < 8 → stage_at more i ≡ stage_at x i
    same_stage i h = stage_same (place_of more i) (place_of x i) (λ t k. get_or-drop (8 + 18 * i) more t 0 ∙ front (8 + 18 * i + t) (omega arith) ∙ sym (get_or-drop (8 + 18 * i) x t 0))

    same_known : (i m : ℕ) → i + m ≤ 8 → kinds_known more i m ≡ kinds_known x i m
    unfolding kinds_known
    same_known i zero h = refl
    same_known i (suc m) h = ap₂ (λ (p q : Bool). p && q) (ap of_stage (front (8 + 18 * i) (omega arith))) (same_known (suc i) m (omega arith))

    pub stands_front : stands more ≡ stands x
    unfolding stands
    stands_front =
        let l : leb 152 (length more) ≡ true = le-leb 152 (length more) (omega (arith, length-append x rest)) in
        let k : leb 152 (length x) ≡ true = le-leb 152 (length x) (omega arith) in
        rw (l, k, front 0 (omega arith)) (few (leb (word x 0) 8) refl)
      where
        few : (b : Bool) → leb (word x 0) 8 ≡ b → (b && kinds_known more 0 (word x 0)) ≡ (b && kinds_known x 0 (word x 0))
        few true e = let h : word x 0 ≤ 8 = leb-true (word x 0) 8 e in same_known 0 (word x 0) (omega arith)
        few false e = refl

    pub chain_front : chain_of_words more ≡ chain_of_words x
    unfolding chain_of_words chain_at
    chain_front = rw (
      stands_front,
      same_stage 0 (omega arith),
      same_stage 1 (omega arith),
      same_stage 2 (omega arith),
      same_stage 3 (omega arith),
      same_stage 4 (omega arith),
      same_stage 5 (omega arith),
      same_stage 6 (omega arith),
      same_stage 7 (omega arith),
      front 0 (omega arith),
      front 1 (omega arith),
      front 2 (omega arith),
      front 3 (omega arith),
      front 4 (omega arith),
      front 5 (omega arith),
      front 6 (omega arith),
    )

  -- ---- what stays of the first 152 stays of all
  pub stays_front : (x y : List ℕ) → length x ≡ 152 → length y ≡ 152 → SettingsStay x y → SettingsStay (x ++ rest) (y ++ rest)
  stays_front x y n m s = record {
    long = length-append y rest ∙ omega (arith, length-append x rest);
    head = λ j h. front y m j (omega arith) ∙ s.head j h ∙ sym (front x n j (omega arith));
    seventh = front y m 7 (omega arith) ∙ s.seventh ∙ sym (front x n 7 (omega arith));
    settings = λ i j h. both (8 + 18 * i + j) (dec_lt (8 + 18 * i + j) 152) (s.settings i j h);
    spare = λ j h. both j (dec_lt j 152) (s.spare j (omega (arith, h, front x n 0 (omega arith))));
  }
    where
      both : (j : ℕ) → Dec (j < 152) → word y j ≡ word x j → word (y ++ rest) j ≡ word (x ++ rest) j
      both j (yes h) e = front y m j h ∙ e ∙ sym (front x n j h)
      both j (no h) e = past y m j (omega arith) ∙ sym (past x n j (omega arith))

  -- ---- what is written to the first 152
  sets_front : (vs x : List ℕ) (i : ℕ) → i + length vs ≤ length x → sets (x ++ rest) i vs ≡ sets x i vs ++ rest
  sets_front [] x i h = refl
  sets_front (v ∷ vs) x i h =
      ap (λ (l : List ℕ). sets l (suc i) vs) (set-append_left x rest i v (omega arith)) ∙ sets_front vs (set x i v) (suc i) (omega (arith, length-set x i v))

  kept_front : (l : List Stage) (x : List ℕ) (i : ℕ) → 8 + 18 * (i + length l) ≤ length x → kept_words (x ++ rest) i l ≡ kept_words x i l ++ rest
  unfolding kept_words
  kept_front [] x i h = refl
  kept_front (s ∷ l) x i h =
      ap (λ (w : List ℕ). kept_words w (suc i) l) (sets_front (memory_words s.memory) x (8 + 18 * i + 7) (omega (arith, length_memory s.memory)))
      ∙ kept_front l (sets x (8 + 18 * i + 7) (memory_words s.memory)) (suc i) (omega (arith, length-sets x (8 + 18 * i + 7) (memory_words s.memory)))

  pub sound_front : (l : List Stage) (x : List ℕ) (blocks empty : ℕ) → length x ≡ 152 → length l ≤ 8 → with_sound (x ++ rest) l blocks empty ≡ with_sound x l blocks empty ++ rest
  unfolding with_sound
  sound_front l x blocks empty n few =
      ap (λ (w : List ℕ). sets w 3 (counter_words blocks empty)) (kept_front l x 0 (omega arith))
      ∙ sets_front (counter_words blocks empty) (kept_words x 0 l) 3 (omega (arith, length_kept l x 0))

-- ---- the first 152 of as many or more
module _ (w x : List ℕ) (long : 152 ≤ length w) (e : x ≡ take 152 w) where
  joined : x ++ drop 152 w ≡ w
  joined = ap (λ (l : List ℕ). l ++ drop 152 w) e ∙ take-append-drop 152 w

  pub cut_long : length x ≡ 152
  cut_long = ap length e ∙ length-take-le 152 w long

  pub cut_stands : stands w ≡ stands x
  cut_stands = ap stands (sym joined) ∙ stands_front (drop 152 w) x cut_long

  pub cut_chain : chain_of_words w ≡ chain_of_words x
  cut_chain = ap chain_of_words (sym joined) ∙ chain_front (drop 152 w) x cut_long

-- as many words stand for a chain where count and kinds do
pub stands_counted : (x : List ℕ) → length x ≡ 152 → stands x ≡ (leb (word x 0) 8 && kinds_known x 0 (word x 0))
unfolding stands
stands_counted x n = let k : leb 152 (length x) ≡ true = le-leb 152 (length x) (omega arith) in rw k
