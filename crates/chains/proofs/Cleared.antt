-- After a reset the words stand for the chain cleared. Assumes nothing.
use mathlib.Core.Path.{◌≡◌, refl, sym, ap, ◌∙◌, subst}
use mathlib.Core.Bool.{Bool, true, false, cond}
use mathlib.Core.List.{List, [], ◌∷◌, ◌++◌, map}
use Prim.Native.Nat.{ℕ, ◌≤◌}
use native.Mathlib.Omega.{arith}
use borrow.Author.Tests.{le-leb, leb-true}
use lib.Dec.{leb}
use lib.ListN.{length, take, drop, length-append, length-drop, length-map, take-append-drop}
use lib.Seq.{length-take-le, take_at, drop_at}
use Rattle.pcm.specs.Samples.{All}
use Rattle.pcm.specs.laws.Frames.{all_take, all_map}
use Rattle.stage.specs.declared.Stage.{Stage}
use Rattle.stage.specs.declared.StageKind.{StageKind}
use Rattle.stage.specs.Stages.{stage_clear, kinds_of}
use Rattle.pcm.specs.laws.Tests.{both}
use Rattle.pipeline.specs.declared.Pipeline.{Pipeline}
use Rattle.pipeline.specs.Reset.{reset_call}
use Rattle.pipeline.specs.WritingBack.{stages_of}
use Rattle.stage_words.specs.Layout.{word}
use Rattle.stage_words.specs.Storable.{HeldMemory, Small}
use Rattle.stage_words.specs.laws.Small.{small_clear}
use Rattle.chain_words.specs.Layout.{chain_at, stands, no_chain, chain_of_words}
use Rattle.chain_words.specs.laws.Chains.{stands_long}
use Rattle.chain_words.specs.laws.Keeping.{KeptStage, walk_stands}
use Rattle.chain_words.specs.Kept.{sound_words}

kinds_clear : (l : List Stage) → kinds_of (map stage_clear l) ≡ kinds_of l
kinds_clear [] = refl
kinds_clear (s ∷ l) = ap (λ (ks : List StageKind). s.kind ∷ ks) (kinds_clear l)

-- ---- what a call alters of a chain: the memories of the stages in use, and the counters
pub record Altered (c d : Pipeline) : Type 0 where
  pub places : length d.stages ≡ 8
  pub count : d.count ≡ c.count
  pub format : d.format ≡ c.format
  pub kinds : kinds_of (stages_of d) ≡ kinds_of (stages_of c)
  pub spare : drop c.count d.stages ≡ drop c.count c.stages
  pub small : All Small (stages_of d)

module _ (c : Pipeline) (places : length c.stages ≡ 8) (few : c.count ≤ 8) where
  altered : (m : List Stage) (d : Pipeline) → d.stages ≡ m ++ drop c.count c.stages → d.count ≡ c.count → d.format ≡ c.format → length m ≡ length (stages_of c) → kinds_of m ≡ kinds_of (stages_of c) → All Small m
      → Altered c d
  altered m d e n f l k s =
      let q : length m ≡ c.count = l ∙ length-take-le c.count c.stages (omega arith) in
      let t : stages_of d ≡ m = rw (n, e) (take_at m (drop c.count c.stages) c.count q) in
      record {
        places = ap length e ∙ length-append m (drop c.count c.stages) ∙ omega (arith, length-drop c.count c.stages);
        count = n;
        format = f;
        kinds = ap kinds_of t ∙ k;
        spare = ap (drop c.count) e ∙ drop_at m (drop c.count c.stages) c.count q;
        small = subst (λ (x : List Stage). All Small x) (sym t) s;
      }

  module _ (small : All Small c.stages) where
    pub reset_alters : Altered c (reset_call c)
    unfolding reset_call
    reset_alters = rw (le-leb c.count 8 few)
        (altered (map stage_clear (stages_of c)) _ refl refl refl (length-map (stages_of c) stage_clear) (kinds_clear (stages_of c))
        (all_map Small Small stage_clear small_clear (stages_of c) (all_take Small c.count c.stages small)))

-- ---- the chain that words stand for
module _ (w : List ℕ) where
  pub places_of_words : length (chain_of_words w).stages ≡ 8
  unfolding chain_of_words chain_at
  places_of_words = go (stands w)
    where
      go : (b : Bool) → length (cond b (chain_at w) no_chain).stages ≡ 8
      go true = refl
      go false = refl

  pub count_of_words : stands w ≡ true → (chain_of_words w).count ≤ 8
  unfolding chain_of_words chain_at stands
  count_of_words h = rw h (leb-true (word w 0) 8 (both (leb (word w 0) 8) _ (both (leb 152 (length w)) _ h).1).0)

-- ---- words that stand for no chain: a reset leaves all
pub no_chain_reset : reset_call no_chain ≡ no_chain
unfolding reset_call
no_chain_reset = refl

-- ---- memories and counters to their words: they stand for the chain altered
both_kept : (l : List Stage) → All HeldMemory l → All Small l → All KeptStage l
both_kept [] h k = tt
both_kept (s ∷ l) h k = (record { filter = h.0.filter; last = h.0.last; phase = k.0.phase }, both_kept l h.1 k.1)

pub sound_stands : (w : List ℕ) (d : Pipeline) → stands w ≡ true → Altered (chain_of_words w) d → All HeldMemory (stages_of d) → chain_of_words (sound_words w d) ≡ d
sound_stands w d s x h =
    let c : Pipeline = chain_of_words w in
    let few : (chain_of_words w).count ≤ 8 = count_of_words w s in
    let n : length (stages_of d) ≡ (chain_of_words w).count = length-take-le d.count d.stages (omega (arith, x.count, x.places)) ∙ x.count in
    let k : kinds_of (take (length (stages_of d)) (chain_of_words w).stages) ≡ kinds_of (stages_of d) = ap (λ (m : ℕ). kinds_of (take m (chain_of_words w).stages)) n ∙ sym x.kinds in
    let r : stages_of d ++ drop (length (stages_of d)) (chain_of_words w).stages ≡ d.stages =
    ap (λ (m : ℕ). stages_of d ++ drop m (chain_of_words w).stages) n ∙ ap (λ (l : List Stage). stages_of d ++ l) (sym x.spare) ∙ ap (λ (m : ℕ). take m d.stages ++ drop (chain_of_words w).count d.stages) x.count ∙ take-append-drop (chain_of_words w).count d.stages in
    walk_stands w (stages_of d) d.blocks d.empty_blocks (omega arith) (stands_long w s) s k (both_kept (stages_of d) h x.small)
    ∙ rw (r, sym x.count, sym x.format)

-- ---- after a reset they stand for the chain cleared
pub reset_few : (w : List ℕ) → stands w ≡ true → (reset_call (chain_of_words w)).count ≤ 8
unfolding reset_call
reset_few w h = rw (le-leb (chain_of_words w).count 8 (count_of_words w h)) (count_of_words w h)

pub reset_stands : (w : List ℕ) → All Small (chain_of_words w).stages → stands w ≡ true → All HeldMemory (stages_of (reset_call (chain_of_words w))) → chain_of_words (sound_words w (reset_call (chain_of_words w))) ≡ reset_call (chain_of_words w)
reset_stands w small h held = sound_stands w (reset_call (chain_of_words w)) h (reset_alters (chain_of_words w) (places_of_words w) (count_of_words w h) small) held
