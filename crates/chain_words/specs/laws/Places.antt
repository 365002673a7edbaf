-- Laws of the places: each stage has its own words, and what is written to one place alters no other. Assumes nothing.
use Rattle.std.specs.Prelude.{◌≡◌, List, [], ◌∷◌, ◌++◌, ℕ, ◌+◌, ◌-◌, ◌*◌, ◌≤◌, ◌<◌, length, get_or, drop}
use Rattle.std.proofs.Common.{sym, ap, ap₂, ◌∙◌, subst, arith, get_or-drop, get_or-append-add}
use Rattle.std.proofs.Math.Decide.{dec_lt}
use Rattle.std.proofs.Math.ListN.{get_or-append}
use Rattle.std.proofs.lemmas.List.Edits.{sets}
use Rattle.stage.specs.declared.StageKind.{StageKind}
use Rattle.stage.specs.declared.SoundMemory.{SoundMemory}
use Rattle.stage.specs.declared.Stage.{Stage}
use Rattle.stage_words.specs.Layout.{memory_words, words_of_stage, word, stage_of}
use Rattle.stage_words.specs.Storable.{HeldFilter, TwoSamples, HeldStage, Small}
use Rattle.stage_words.specs.laws.ReadBack.{memory_back, stage_back}
use Rattle.stage_words.specs.laws.Reading.{length_memory, length_stage, kind_same, memory_same, stage_same}
use Rattle.words.specs.laws.Runs.{before_run, after_run, from_run}
use Rattle.chain_words.specs.Layout.{place_of, stage_at}

-- words of 32 bits are so at each place
pub place_small : (w : List ℕ) (i : ℕ) → ((j : ℕ) → word w j < 4294967296) → (j : ℕ) → word (place_of w i) j < 4294967296
place_small w i h j = rw (get_or-drop (8 + 18 * i) w j 0) (h (8 + 18 * i + j))

module _ (w : List ℕ) (i : ℕ) where
  -- a stage that was written stands there
  pub stage_written : (s : Stage) → HeldStage s → Small s → 8 + 18 * i + 18 ≤ length w → stage_at (sets w (8 + 18 * i) (words_of_stage s)) i ≡ s
  stage_written s h k l = ap stage_of (from_run (words_of_stage s) w (8 + 18 * i) (rw (length_stage s) l)) ∙ stage_back s h k (drop (8 + 18 * i + length (words_of_stage s)) w)

  -- and a memory, beside the kind that stood there
  module _ (m : SoundMemory) (fits : 8 + 18 * i + 18 ≤ length w) where
    abbrev after : List ℕ
    after = sets w (8 + 18 * i + 7) (memory_words m)

    -- what its words are like
    abbrev like : List ℕ
    like = 0 ∷ 0 ∷ 0 ∷ 0 ∷ 0 ∷ 0 ∷ 0 ∷ (memory_words m ++ [])

    front : (j : ℕ) → j < 7 → word (place_of after i) j ≡ word (place_of w i) j
    front j h = get_or-drop (8 + 18 * i) after j 0 ∙ before_run (memory_words m) w (8 + 18 * i + 7) (8 + 18 * i + j) 0 (omega arith) ∙ sym (get_or-drop (8 + 18 * i) w j 0)

    inside : (j : ℕ) → j < 11 → word after (8 + 18 * i + 7 + j) ≡ word (memory_words m) j
    inside j h =
        let n : length (memory_words m) ≡ 11 = length_memory m in
        let a : 8 + 18 * i + 7 + length (memory_words m) ≤ length w = omega arith in
        sym (get_or-drop (8 + 18 * i + 7) after j 0)
        ∙ ap (λ (x : List ℕ). get_or x j 0) (from_run (memory_words m) w (8 + 18 * i + 7) a)
        ∙ get_or-append (memory_words m) (drop (8 + 18 * i + 7 + length (memory_words m)) w) 0 j (omega arith)

    later : (n : ℕ) → n < 11 → word (place_of after i) (7 + n) ≡ word like (7 + n)
    later n h =
        let e : 8 + 18 * i + (7 + n) ≡ 8 + 18 * i + 7 + n = omega arith in
        let k : length (memory_words m) ≡ 11 = length_memory m in
        let a : word like (7 + n) ≡ word (memory_words m ++ []) n = get_or-append-add (0 ∷ 0 ∷ 0 ∷ 0 ∷ 0 ∷ 0 ∷ 0 ∷ []) (memory_words m ++ []) n 0 in
        let b : word (memory_words m ++ []) n ≡ word (memory_words m) n = get_or-append (memory_words m) [] 0 n (omega arith) in
        let d : word (place_of after i) (7 + n) ≡ word (memory_words m) n = get_or-drop (8 + 18 * i) after (7 + n) 0 ∙ ap (word after) e ∙ inside n h in
        cc

    back : (j : ℕ) → 7 ≤ j → j < 18 → word (place_of after i) j ≡ word like j
    back j a h = let e : 7 + (j - 7) ≡ j = omega arith in subst (λ (x : ℕ). word (place_of after i) x ≡ word like x) e (later (j - 7) (omega arith))

    pub memory_written : HeldFilter m.filter → TwoSamples m.resampler.last → m.resampler.phase < 4294967296
        → stage_at (sets w (8 + 18 * i + 7) (memory_words m)) i ≡ record { kind = (stage_at w i).kind; memory = m }
    memory_written f t p = ap₂ (λ (k : StageKind) (n : SoundMemory). record { kind = k; memory = n })
        (kind_same (place_of after i) (place_of w i) front)
        (memory_same (place_of after i) like back ∙ memory_back m f t p 0 0 0 0 0 0 0 [])

  -- the other places keep their stages
  pub other_place : (xs : List ℕ) (j k : ℕ) → k + length xs ≤ 18 → (i ≡ j → ⊥) → stage_at (sets w (8 + 18 * i + k) xs) j ≡ stage_at w j
  other_place xs j k n e = stage_same (place_of (sets w (8 + 18 * i + k) xs) j) (place_of w j)
      (λ t h. get_or-drop (8 + 18 * j) (sets w (8 + 18 * i + k) xs) t 0 ∙ kept t h (dec_lt i j) ∙ sym (get_or-drop (8 + 18 * j) w t 0))
    where
      kept : (t : ℕ) → t < 18 → Dec (i < j) → word (sets w (8 + 18 * i + k) xs) (8 + 18 * j + t) ≡ word w (8 + 18 * j + t)
      kept t h (yes l) = after_run xs w (8 + 18 * i + k) (8 + 18 * j + t) 0 (omega arith)
      kept t h (no l) = before_run xs w (8 + 18 * i + k) (8 + 18 * j + t) 0 (omega arith)
