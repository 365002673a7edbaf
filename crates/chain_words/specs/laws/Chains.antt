-- Laws of whole chains: words that were written for a chain stand for it. Assumes nothing.
use Rattle.std.specs.Prelude.{◌≡◌, Bool, true, false, cond, leb}
use Rattle.std.proofs.Math.Path.{refl, sym, ap, ap₂}
use Rattle.std.proofs.Common.{◌∙◌, drop-drop, get_or-drop}
use mathlib.Core.List.{List, [], ◌∷◌, ◌++◌, append_assoc}
use Prim.Native.Nat.{ℕ, zero, suc, ◌+◌, ◌*◌, ◌/◌, ◌%◌, ◌≤◌, ◌<◌}
use native.Mathlib.Omega.{arith}
use borrow.Author.Tests.{le-leb, lt-leb, leb-true}
use Rattle.std.proofs.Math.ListN.{length, drop, length-append}
use Rattle.std.proofs.Math.Seq.{drop_at}
use Rattle.pcm.specs.Samples.{All}
use Rattle.stage.specs.declared.StageKind.{StageKind}
use Rattle.stage.specs.declared.StageKind.TheVariants as kind
use Rattle.stage.specs.declared.Stage.{Stage}
use Rattle.pcm.specs.laws.Tests.{both}
use Rattle.recipe.specs.Records.{of_stage}
use Rattle.pipeline.specs.declared.Pipeline.{Pipeline}
use Rattle.stage_words.specs.Layout.{setting_words, memory_words, words_of_stage, word, stage_of}
use Rattle.stage_words.specs.Storable.{HeldStage, Small}
use Rattle.stage_words.specs.laws.ReadBack.{stage_back}
use Rattle.stage_words.specs.laws.Reading.{length_stage}
use Rattle.chain_words.specs.Layout.{head_words, stages_words, words_of, place_of, stages_from, chain_at, kinds_known, stands, no_chain, chain_of_words}
use Rattle.chain_words.specs.Storable.{Storable}

-- ---- lengths
pub length_head : (c : Pipeline) → length (head_words c) ≡ 8
unfolding head_words
length_head c = refl

pub length_stages : (l : List Stage) → length (stages_words l) ≡ 18 * length l
unfolding stages_words
length_stages [] = refl
length_stages (s ∷ l) = length-append (words_of_stage s) (stages_words l) ∙ omega (arith, length_stage s, length_stages l)

pub length_words : (c : Pipeline) → length c.stages ≡ 8 → length (words_of c) ≡ 152
unfolding words_of
length_words c h = length-append (head_words c) (stages_words c.stages) ∙ omega (arith, length_head c, length_stages c.stages)

-- ---- the stages, one after another
module _ (w rest : List ℕ) where
  next_place : (s : Stage) (l : List Stage) (i : ℕ) → place_of w i ≡ stages_words (s ∷ l) ++ rest → place_of w (suc i) ≡ stages_words l ++ rest
  unfolding stages_words
  next_place s l i e =
      let n : 8 + 18 * i + 18 ≡ 8 + 18 * suc i = omega arith in
      ap (λ (k : ℕ). drop k w) (sym n) ∙ sym (drop-drop 18 (8 + 18 * i) w) ∙ ap (drop 18) (e ∙ append_assoc (words_of_stage s) (stages_words l) rest)
      ∙ drop_at (words_of_stage s) (stages_words l ++ rest) 18 (length_stage s)

  stages_back : (l : List Stage) (i : ℕ) → place_of w i ≡ stages_words l ++ rest → All HeldStage l → All Small l → stages_from w i (length l) ≡ l
  unfolding stages_words
  stages_back [] i e h k = refl
  stages_back (s ∷ l) i e h k =
      ap₂ (λ (x : Stage) (y : List Stage). x ∷ y)
      (ap stage_of (e ∙ append_assoc (words_of_stage s) (stages_words l) rest) ∙ stage_back s h.0 k.0 (stages_words l ++ rest))
      (stages_back l (suc i) (next_place s l i e) h.1 k.1)

  first_known : (k : StageKind) (later : List ℕ) → of_stage (word (setting_words k ++ later) 0) ≡ true
  unfolding setting_words
  first_known (kind.Gain g) later = refl
  first_known kind.MonoToStereo later = refl
  first_known kind.StereoToMono later = refl
  first_known (kind.Resample r) later = refl
  first_known (kind.DcBlock d) later = refl
  first_known (kind.Biquad b) later = refl

  kind_at : (s : Stage) (l : List Stage) (i : ℕ) → place_of w i ≡ stages_words (s ∷ l) ++ rest → of_stage (word w (8 + 18 * i)) ≡ true
  unfolding stages_words words_of_stage
  kind_at s l i e =
      let n : 8 + 18 * i + 0 ≡ 8 + 18 * i = omega arith in
      ap of_stage
      (sym (get_or-drop (8 + 18 * i) w 0 0 ∙ ap (word w) n)
      ∙ ap (λ (x : List ℕ). word x 0) (e ∙ append_assoc (words_of_stage s) (stages_words l) rest ∙ append_assoc (setting_words s.kind) (memory_words s.memory) (stages_words l ++ rest)))
      ∙ first_known s.kind (memory_words s.memory ++ (stages_words l ++ rest))

  kinds_back : (l : List Stage) (i n : ℕ) → place_of w i ≡ stages_words l ++ rest → n ≤ length l → kinds_known w i n ≡ true
  unfolding kinds_known
  kinds_back l i zero e h = refl
  kinds_back [] i (suc n) e h = absurd (let z : ⊥ = omega arith in z)
  kinds_back (s ∷ l) i (suc n) e h = rw (kind_at s l i e) (kinds_back l (suc i) n (next_place s l i e) (omega arith))

-- ---- the chain
module _ (c : Pipeline) (u : Storable c) (rest : List ℕ) where
  begins : place_of (words_of c ++ rest) 0 ≡ stages_words c.stages ++ rest
  unfolding words_of head_words
  begins = refl

  counter : (n : ℕ) → n % 4294967296 + 4294967296 * (n / 4294967296) ≡ n
  counter n = omega arith

  first : word (words_of c ++ rest) 0 ≡ c.count
  unfolding words_of head_words
  first = omega (arith, u.count)

  head_back : ◌≡◌ {A = Pipeline} (record {
    stages = c.stages;
    count = word (words_of c ++ rest) 0;
    format = record { rate = word (words_of c ++ rest) 1; channels = word (words_of c ++ rest) 2 % 65536 };
    blocks = word (words_of c ++ rest) 3 + 4294967296 * word (words_of c ++ rest) 4;
    empty_blocks = word (words_of c ++ rest) 5 + 4294967296 * word (words_of c ++ rest) 6;
  }) c
  unfolding words_of head_words
  head_back =
      let n : c.count % 4294967296 ≡ c.count = omega (arith, u.count) in
      let h : c.format.channels % 65536 ≡ c.format.channels = omega (arith, u.channels) in
      rw (n, h, counter c.blocks, counter c.empty_blocks)

  pub chain_back : chain_at (words_of c ++ rest) ≡ c
  unfolding chain_at
  chain_back =
      let s : stages_from (words_of c ++ rest) 0 8 ≡ c.stages = rw u.places at (stages_back (words_of c ++ rest) rest c.stages 0 begins u.held u.small) in
      rw s head_back

  pub stands_back : stands (words_of c ++ rest) ≡ true
  unfolding stands
  stands_back =
      let a : 152 ≤ length (words_of c ++ rest) = omega (arith, length-append (words_of c) rest, length_words c u.places) in
      rw (le-leb 152 (length (words_of c ++ rest)) a, first, le-leb c.count 8 u.count) (kinds_back (words_of c ++ rest) rest c.stages 0 c.count begins (omega (arith, u.count, u.places)))

-- too few words stand for no chain
pub too_few : (w : List ℕ) → length w < 152 → chain_of_words w ≡ no_chain
unfolding chain_of_words stands
too_few w h = rw (lt-leb 152 (length w) h)

pub too_few_stand : (w : List ℕ) → length w < 152 → stands w ≡ false
unfolding stands
too_few_stand w h = rw (lt-leb 152 (length w) h)

-- where words stand for a chain there are enough of them
pub stands_long : (w : List ℕ) → stands w ≡ true → 152 ≤ length w
unfolding stands
stands_long w h = leb-true 152 (length w) (both (leb 152 (length w)) _ h).0

-- ---- the chain that words stand for
pub stands_chain : (w : List ℕ) → stands w ≡ true → chain_of_words w ≡ chain_at w
unfolding chain_of_words
stands_chain w h = rw h

pub no_words : (w : List ℕ) → stands w ≡ false → chain_of_words w ≡ no_chain
unfolding chain_of_words
no_words w h = rw h

-- a count of at most eight is that of words that stand for a chain
pub few_stands : (w : List ℕ) → (chain_of_words w).count ≤ 8 → stands w ≡ true
unfolding chain_of_words
few_stands w = go (stands w)
  where
    go : (b : Bool) → (cond b (chain_at w) no_chain).count ≤ 8 → b ≡ true
    go true h = refl
    go false h = absurd (let z : ⊥ = omega arith in z)
