-- Words of which memories and counters alone are written: what stays, and the chain that they stand for. Assumes nothing.
use Rattle.std.specs.Prelude.{◌≡◌, refl, Bool, true, false, cond, List, ◌∷◌, ℕ, zero, suc, ◌+◌, ◌*◌, ◌≤◌, ◌<◌, length, get_or, set}
use Rattle.std.proofs.Common.{sym, ap, ap₂, ◌∙◌, subst, arith}
use Rattle.std.proofs.Math.Decide.{dec_lt}
use Rattle.std.proofs.Math.Seq.{length-sets}
use Rattle.std.proofs.lemmas.List.Edits.{sets}
use Rattle.stage.specs.declared.Stage.{Stage}
use Rattle.stage_words.specs.Layout.{word}
use Rattle.words.specs.laws.Runs.{before_run, after_run}
use Rattle.chain_words.specs.Kept.{SettingsStay}
use Rattle.chain_words.specs.Layout.{counter_words, stage_at, stages_from, chain_at, stands, no_chain, chain_of_words}
use Rattle.chain_words.specs.laws.Places.{other_place}
use Rattle.chain_words.specs.laws.Keeping.{same_stages, same_kinds, counters_written, counters_apart, stages_apart}
use Rattle.chains.specs.Chains.{with_stages}

-- the chain has eight places, whether words stand for one or not
pub eight_at : (w : List ℕ) → length (chain_of_words w).stages ≡ 8
unfolding chain_of_words chain_at
eight_at w = go (stands w)
  where
    go : (b : Bool) → length (cond b (chain_at w) no_chain).stages ≡ 8
    go true = refl
    go false = refl

-- stages by their number
pub stage_of_eight : (w : List ℕ) (i : ℕ) (d : Stage) → i < 8 → get_or (chain_at w).stages i d ≡ stage_at w i
unfolding chain_at
stage_of_eight w i d h = let e : 0 + i ≡ i = omega arith in go 8 0 i h ∙ ap (stage_at w) e
  where
    go : (n k i : ℕ) → i < n → get_or (stages_from w k n) i d ≡ stage_at w (k + i)
    go zero k i h = absurd (let z : ⊥ = omega arith in z)
    go (suc n) k zero h = let e : k + 0 ≡ k = omega arith in rw e
    go (suc n) k (suc i) h = let e : suc k + i ≡ k + suc i = omega arith in go n (suc k) i (omega arith) ∙ ap (stage_at w) e

-- ---- what stays, from one call to the next
pub stay_same : (w : List ℕ) → SettingsStay w w
stay_same w = record { long = refl; head = λ j h. refl; seventh = refl; settings = λ i j h. refl; spare = λ j h. refl }

pub stay_on : (u v w : List ℕ) → SettingsStay u v → SettingsStay v w → SettingsStay u w
stay_on u v w p q = record {
  long = q.long ∙ p.long;
  head = λ j h. q.head j h ∙ p.head j h;
  seventh = q.seventh ∙ p.seventh;
  settings = λ i j h. q.settings i j h ∙ p.settings i j h;
  spare = λ j h. q.spare j (omega (arith, p.head 0 (omega arith))) ∙ p.spare j h;
}

-- words whose settings stay stand for a chain where they did
pub stays_stand : (w w' : List ℕ) → stands w ≡ true → SettingsStay w w' → stands w' ≡ true
unfolding stands
stays_stand w w' h s = rw (s.long, s.head 0 (omega arith), same_kinds w' w 0 (word w 0) kinds) h
  where
    kinds : (j : ℕ) → word w' (8 + 18 * j) ≡ word w (8 + 18 * j)
    kinds j = let e : 8 + 18 * j + 0 ≡ 8 + 18 * j = omega arith in subst (λ (n : ℕ). word w' n ≡ word w n) e (s.settings j 0 (omega arith))

-- ---- a run past the settings of a stage, within its place
module _ (w : List ℕ) (i k : ℕ) (xs : List ℕ) (past : 7 ≤ k) (within : k + length xs ≤ 18) where
  abbrev put : List ℕ
  put = sets w (8 + 18 * i + k) xs

  settings_put : (n j : ℕ) → j < 7 → word put (8 + 18 * n + j) ≡ word w (8 + 18 * n + j)
  settings_put n j h = go (dec_lt i n)
    where
      go : Dec (i < n) → word put (8 + 18 * n + j) ≡ word w (8 + 18 * n + j)
      go (yes l) = after_run xs w (8 + 18 * i + k) (8 + 18 * n + j) 0 (omega arith)
      go (no l) = before_run xs w (8 + 18 * i + k) (8 + 18 * n + j) 0 (omega arith)

  head_put : (j : ℕ) → j < 8 → word put j ≡ word w j
  head_put j h = before_run xs w (8 + 18 * i + k) j 0 (omega arith)

  pub put_stays : i < word w 0 → SettingsStay w put
  put_stays h = record {
    long = length-sets w (8 + 18 * i + k) xs;
    head = λ j l. head_put j (omega arith);
    seventh = head_put 7 (omega arith);
    settings = λ n j l. settings_put n j l;
    spare = λ j l. after_run xs w (8 + 18 * i + k) j 0 (omega arith);
  }

  -- the chain has another stage there, and is as it was elsewhere
  module _ (s : Stage) (here : stage_at put i ≡ s) where
    stages_put : (n j d : ℕ) → i ≡ j + d → stages_from put j n ≡ set (stages_from w j n) d s
    stages_put zero j d e = refl
    stages_put (suc n) j zero e =
        let q : i ≡ j = omega arith in
        ap₂ (λ (x : Stage) (l : List Stage). x ∷ l) (ap (stage_at put) (sym q) ∙ here)
        (same_stages put w (suc j) n (λ t l. other_place w i xs t k within (λ (z : i ≡ t). omega arith)))
    stages_put (suc n) j (suc d) e =
        ap₂ (λ (x : Stage) (l : List Stage). x ∷ l) (other_place w i xs j k within (λ (z : i ≡ j). omega arith))
        (stages_put n (suc j) d (omega arith))

    pub chain_put : chain_at put ≡ with_stages (chain_at w) (set (chain_at w).stages i s)
    unfolding chain_at with_stages
    chain_put =
        let e : i ≡ 0 + i = omega arith in
        rw (stages_put 8 0 i e, head_put 0 (omega arith), head_put 1 (omega arith), head_put 2 (omega arith), head_put 3 (omega arith), head_put 4 (omega arith), head_put 5 (omega arith), head_put 6 (omega arith))

-- ---- and the counters
module _ (w : List ℕ) (blocks empty : ℕ) (fits : 8 ≤ length w) where
  abbrev pub counted : List ℕ
  counted = sets w 3 (counter_words blocks empty)

  later : (j : ℕ) → 7 ≤ j → word counted j ≡ word w j
  later j h = after_run (counter_words blocks empty) w 3 j 0 (omega arith)

  pub counted_stays : SettingsStay w counted
  counted_stays = record {
    long = length-sets w 3 (counter_words blocks empty);
    head = λ j l. counters_apart w blocks empty fits j l;
    seventh = later 7 (omega arith);
    settings = λ i j l. later (8 + 18 * i + j) (omega arith);
    spare = λ j l. later j (omega arith);
  }

  pub chain_counted : chain_at counted ≡ record { stages = (chain_at w).stages; count = (chain_at w).count; format = (chain_at w).format; blocks = blocks; empty_blocks = empty }
  unfolding chain_at
  chain_counted =
      let c = counters_written w blocks empty fits in
      rw (
        same_stages counted w 0 8 (λ j l. stages_apart w blocks empty fits j),
        counters_apart w blocks empty fits 0 (omega arith),
        counters_apart w blocks empty fits 1 (omega arith),
        counters_apart w blocks empty fits 2 (omega arith),
        c.0,
        c.1,
      )
