-- Laws of words of which memories and counters alone are written: kinds, settings and all that is not in use stay. Assumes nothing.
use Rattle.std.specs.Prelude.{◌≡◌, refl, Bool, true, ◌&&◌, take}
use Rattle.std.proofs.Math.Path.{sym, ap, ap₂}
use Rattle.std.proofs.Common.{◌∙◌, get_or-drop, take_at}
use mathlib.Core.List.{List, [], ◌∷◌, ◌++◌}
use Prim.Native.Nat.{ℕ, zero, suc, ◌+◌, ◌-◌, ◌*◌, ◌≤◌, ◌<◌}
use Rattle.std.proofs.Math.Decide.{dec_lt}
use native.Mathlib.Omega.{arith}
use Rattle.std.proofs.Math.ListN.{length, drop}
use Rattle.std.proofs.lemmas.List.Edits.{sets}
use Rattle.std.proofs.Math.Seq.{length-sets, drop_at}
use Rattle.pcm.specs.Samples.{All}
use Rattle.stage.specs.declared.StageKind.{StageKind}
use Rattle.stage.specs.declared.SoundMemory.{SoundMemory}
use Rattle.stage.specs.declared.Stage.{Stage}
use Rattle.stage.specs.Stages.{kinds_of}
use Rattle.recipe.specs.Records.{of_stage}
use Rattle.stage_words.specs.Layout.{memory_words, word}
use Rattle.stage_words.specs.laws.Storable.{Kept}
use Rattle.stage_words.specs.laws.Reading.{length_memory, stage_same}
use Rattle.words.specs.laws.Runs.{before_run, after_run, from_run}
use Rattle.chain_words.specs.Kept.{kept_words, with_sound}
use Rattle.chain_words.specs.Layout.{counter_words, place_of, stage_at, stages_from, counter_at, chain_at, kinds_known, stands, chain_of_words}
use Rattle.chain_words.specs.laws.Places.{memory_written, other_place}

abbrev pub KeptStage : Stage → Type 0
KeptStage s = Kept s.memory

-- ---- they stay as many
pub length_kept : (l : List Stage) (w : List ℕ) (i : ℕ) → length (kept_words w i l) ≡ length w
unfolding kept_words
length_kept [] w i = refl
length_kept (s ∷ l) w i = length_kept l (sets w (8 + 18 * i + 7) (memory_words s.memory)) (suc i) ∙ length-sets w (8 + 18 * i + 7) (memory_words s.memory)

-- ---- earlier places, and the words before all stages, stay
pub kept_before : (l : List Stage) (w : List ℕ) (i j : ℕ) → j < 8 + 18 * i → word (kept_words w i l) j ≡ word w j
unfolding kept_words
kept_before [] w i j h = refl
kept_before (s ∷ l) w i j h =
    kept_before l (sets w (8 + 18 * i + 7) (memory_words s.memory)) (suc i) j (omega arith) ∙ before_run (memory_words s.memory) w (8 + 18 * i + 7) j 0 (omega arith)

pub earlier_place : (l : List Stage) (w : List ℕ) (i j : ℕ) → j < i → stage_at (kept_words w i l) j ≡ stage_at w j
earlier_place l w i j h = stage_same (place_of (kept_words w i l) j) (place_of w j)
    (λ t k. get_or-drop (8 + 18 * j) (kept_words w i l) t 0 ∙ kept_before l w i (8 + 18 * j + t) (omega arith) ∙ sym (get_or-drop (8 + 18 * j) w t 0))

-- ---- a memory that is written to stage i's place alters no later stage
later_stages : (w : List ℕ) (m : SoundMemory) (i j n : ℕ) → i < j → stages_from (sets w (8 + 18 * i + 7) (memory_words m)) j n ≡ stages_from w j n
later_stages w m i j zero h = refl
later_stages w m i j (suc n) h =
    ap₂ (λ (s : Stage) (l : List Stage). s ∷ l)
    (other_place w i (memory_words m) j 7 (omega (arith, length_memory m)) (λ (e : i ≡ j). omega arith))
    (later_stages w m i (suc j) n (omega arith))

-- ---- stages that have the kinds that stood there are read back
pub kept_stages : (l : List Stage) (w : List ℕ) (i : ℕ) → 8 + 18 * (i + length l) ≤ length w → kinds_of (stages_from w i (length l)) ≡ kinds_of l → All KeptStage l
    → stages_from (kept_words w i l) i (length l) ≡ l
unfolding kept_words
kept_stages [] w i n e h = refl
kept_stages (s ∷ l) w i n e h =
    let w₁ : List ℕ = sets w (8 + 18 * i + 7) (memory_words s.memory) in
    let a : (stage_at w i).kind ≡ s.kind = cc in
    let b : kinds_of (stages_from w (suc i) (length l)) ≡ kinds_of l = cc in
    let here : stage_at w₁ i ≡ record { kind = (stage_at w i).kind; memory = s.memory } = memory_written w i s.memory (omega arith) h.0.filter h.0.last h.0.phase in
    let first : stage_at (kept_words w₁ (suc i) l) i ≡ s = earlier_place l w₁ (suc i) i (omega arith) ∙ here ∙ ap (λ (q : StageKind). record { kind = q; memory = s.memory }) a in
    let rest : stages_from (kept_words w₁ (suc i) l) (suc i) (length l) ≡ l =
    kept_stages l w₁ (suc i) (omega (arith, length-sets w (8 + 18 * i + 7) (memory_words s.memory))) (ap kinds_of (later_stages w s.memory i (suc i) (length l) (omega arith)) ∙ b) h.1 in
    ap₂ (λ (x : Stage) (y : List Stage). x ∷ y) first rest

-- ---- the counters
module _ (w : List ℕ) (blocks empty : ℕ) (fits : 8 ≤ length w) where
  abbrev pub counted : List ℕ
  counted = sets w 3 (counter_words blocks empty)

  counter_words_lem : drop 3 counted ≡ counter_words blocks empty ++ drop 7 w
  counter_words_lem = from_run (counter_words blocks empty) w 3 (omega arith)

  pub counters_written : (counter_at counted 3 ≡ blocks) × (counter_at counted 5 ≡ empty)
  counters_written =
      let a : (j : ℕ) → word counted (3 + j) ≡ word (counter_words blocks empty ++ drop 7 w) j = λ j. sym (get_or-drop 3 counted j 0) ∙ ap (λ (x : List ℕ). word x j) counter_words_lem in
      (rw (a 0, a 1) (omega arith), rw (a 2, a 3) (omega arith))

  -- no other word moves
  pub counters_apart : (j : ℕ) → j < 3 → word counted j ≡ word w j
  counters_apart j h = before_run (counter_words blocks empty) w 3 j 0 h

  pub stages_apart : (i : ℕ) → stage_at counted i ≡ stage_at w i
  stages_apart i = stage_same (place_of counted i) (place_of w i)
      (λ t k. get_or-drop (8 + 18 * i) counted t 0 ∙ after_run (counter_words blocks empty) w 3 (8 + 18 * i + t) 0 (omega arith) ∙ sym (get_or-drop (8 + 18 * i) w t 0))

-- ---- later places stay
pub kept_after : (l : List Stage) (w : List ℕ) (i j : ℕ) → i + length l ≤ j → stage_at (kept_words w i l) j ≡ stage_at w j
unfolding kept_words
kept_after [] w i j h = refl
kept_after (s ∷ l) w i j h =
    kept_after l (sets w (8 + 18 * i + 7) (memory_words s.memory)) (suc i) j (omega arith)
    ∙ other_place w i (memory_words s.memory) j 7 (omega (arith, length_memory s.memory)) (λ (e : i ≡ j). omega arith)

pub same_stages : (a b : List ℕ) (i n : ℕ) → ((j : ℕ) → i ≤ j → stage_at a j ≡ stage_at b j) → stages_from a i n ≡ stages_from b i n
same_stages a b i zero h = refl
same_stages a b i (suc n) h = ap₂ (λ (s : Stage) (l : List Stage). s ∷ l) (h i (omega arith)) (same_stages a b (suc i) n (λ j k. h j (omega arith)))

pub length_from : (w : List ℕ) (i n : ℕ) → length (stages_from w i n) ≡ n
length_from w i zero = refl
length_from w i (suc n) = ap suc (length_from w (suc i) n)

pub stages_split : (w : List ℕ) (n m i : ℕ) → stages_from w i (n + m) ≡ stages_from w i n ++ stages_from w (i + n) m
stages_split w zero m i = let a : 0 + m ≡ m = omega arith in let b : i + 0 ≡ i = omega arith in rw (a, b)
stages_split w (suc n) m i =
    let a : suc n + m ≡ suc (n + m) = omega arith in
    let b : i + suc n ≡ suc i + n = omega arith in
    rw (a, b) (ap (λ (l : List Stage). stage_at w i ∷ l) (stages_split w n m (suc i)))

-- ---- kinds stay
kept_kind : (l : List Stage) (w : List ℕ) (i j : ℕ) → word (kept_words w i l) (8 + 18 * j) ≡ word w (8 + 18 * j)
unfolding kept_words
kept_kind [] w i j = refl
kept_kind (s ∷ l) w i j = kept_kind l (sets w (8 + 18 * i + 7) (memory_words s.memory)) (suc i) j ∙ go (dec_lt i j)
  where
    go : Dec (i < j) → word (sets w (8 + 18 * i + 7) (memory_words s.memory)) (8 + 18 * j) ≡ word w (8 + 18 * j)
    go (yes k) = after_run (memory_words s.memory) w (8 + 18 * i + 7) (8 + 18 * j) 0 (omega (arith, length_memory s.memory))
    go (no k) = before_run (memory_words s.memory) w (8 + 18 * i + 7) (8 + 18 * j) 0 (omega arith)

pub same_kinds : (a b : List ℕ) (i n : ℕ) → ((j : ℕ) → word a (8 + 18 * j) ≡ word b (8 + 18 * j)) → kinds_known a i n ≡ kinds_known b i n
unfolding kinds_known
same_kinds a b i zero h = refl
same_kinds a b i (suc n) h = ap₂ (λ (x y : Bool). x && y) (ap of_stage (h i)) (same_kinds a b (suc i) n h)

-- ---- memories and counters
pub length_walked : (w : List ℕ) (l : List Stage) (blocks empty : ℕ) → length (with_sound w l blocks empty) ≡ length w
unfolding with_sound
length_walked w l blocks empty = length-sets (kept_words w 0 l) 3 (counter_words blocks empty) ∙ length_kept l w 0

kind_walked : (w : List ℕ) (l : List Stage) (blocks empty j : ℕ) → word (with_sound w l blocks empty) (8 + 18 * j) ≡ word w (8 + 18 * j)
unfolding with_sound
kind_walked w l blocks empty j = after_run (counter_words blocks empty) (kept_words w 0 l) 3 (8 + 18 * j) 0 (omega arith) ∙ kept_kind l w 0 j

counters_walked : (w : List ℕ) (l : List Stage) (blocks empty : ℕ) → 152 ≤ length w → (counter_at (with_sound w l blocks empty) 3 ≡ blocks) × (counter_at (with_sound w l blocks empty) 5 ≡ empty)
unfolding with_sound
counters_walked w l blocks empty long = counters_written (kept_words w 0 l) blocks empty (omega (arith, length_kept l w 0))

module _ (w : List ℕ) (l : List Stage) (blocks empty : ℕ) (few : length l ≤ 8) (long : 152 ≤ length w) where
  abbrev kept : List ℕ
  kept = kept_words w 0 l

  long_kept : 8 ≤ length kept
  long_kept = omega (arith, length_kept l w 0)

  first_words : (j : ℕ) → j < 3 → word (with_sound w l blocks empty) j ≡ word w j
  unfolding with_sound
  first_words j h = counters_apart kept blocks empty long_kept j h ∙ kept_before l w 0 j (omega arith)

  eight_stages : kinds_of (stages_from w 0 (length l)) ≡ kinds_of l → All KeptStage l → stages_from (with_sound w l blocks empty) 0 8 ≡ l ++ drop (length l) (stages_from w 0 8)
  unfolding with_sound
  eight_stages e h =
      let m : ℕ = 8 - length l in
      let n : 8 ≡ length l + (8 - length l) = omega arith in
      let z : 0 + length l ≡ length l = omega arith in
      let a : stages_from kept 0 (length l) ≡ l = kept_stages l w 0 (omega arith) e h in
      let b : stages_from kept (0 + length l) (8 - length l) ≡ stages_from w (0 + length l) (8 - length l) = same_stages kept w (0 + length l) (8 - length l) (λ j g. kept_after l w 0 j g) in
      let d : drop (length l) (stages_from w 0 (length l + (8 - length l))) ≡ stages_from w (0 + length l) (8 - length l) =
      ap (drop (length l)) (stages_split w (length l) (8 - length l) 0) ∙ drop_at (stages_from w 0 (length l)) (stages_from w (0 + length l) (8 - length l)) (length l) (length_from w 0 (length l)) in
      same_stages (sets kept 3 (counter_words blocks empty)) kept 0 8 (λ j g. stages_apart kept blocks empty long_kept j)
      ∙ ap (stages_from kept 0) n
      ∙ stages_split kept (length l) (8 - length l) 0
      ∙ ap₂ (λ (x y : List Stage). x ++ y) a (b ∙ sym d ∙ ap (λ (q : ℕ). drop (length l) (stages_from w 0 q)) (sym n))

  still_stands : stands w ≡ true → stands (with_sound w l blocks empty) ≡ true
  unfolding stands
  still_stands h = rw (length_walked w l blocks empty, first_words 0 (omega arith), same_kinds (with_sound w l blocks empty) w 0 (word w 0) (kind_walked w l blocks empty)) h

  taken : take (length l) (stages_from w 0 8) ≡ stages_from w 0 (length l)
  taken =
      let n : 8 ≡ length l + (8 - length l) = omega arith in
      ap (λ (q : ℕ). take (length l) (stages_from w 0 q)) n
      ∙ ap (take (length l)) (stages_split w (length l) (8 - length l) 0)
      ∙ take_at (stages_from w 0 (length l)) (stages_from w (0 + length l) (8 - length l)) (length l) (length_from w 0 (length l))

  -- where the stages have the kinds that stood there, the words stand for the chain with these stages and counters
  pub walk_stands : stands w ≡ true → kinds_of (take (length l) (chain_of_words w).stages) ≡ kinds_of l → All KeptStage l
      → chain_of_words (with_sound w l blocks empty) ≡ record { stages = l ++ drop (length l) (chain_of_words w).stages; count = (chain_of_words w).count; format = (chain_of_words w).format; blocks = blocks; empty_blocks = empty }
  unfolding chain_of_words chain_at
  walk_stands s e h =
      let c = counters_walked w l blocks empty long in
      let k : kinds_of (stages_from w 0 (length l)) ≡ kinds_of l = ap kinds_of (sym taken) ∙ (rw s at e) in
      rw (s, still_stands s, eight_stages k h, first_words 0 (omega arith), first_words 1 (omega arith), first_words 2 (omega arith), c.0, c.1)
