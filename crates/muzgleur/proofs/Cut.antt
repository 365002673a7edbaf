-- The chain's words at the front of the caller's: what a call does to them is done to all. Assumes nothing.
use Rattle.std.specs.Prelude.{◌≡◌, refl, Bool, true, false, cond, List, ◌++◌, ℕ, ◌≤◌, leb, length, drop, map}
use Rattle.std.specs.Array.{IsFirstChunk}
use Rattle.std.proofs.Common.{sym, ap, ◌∙◌, subst, arith, append_assoc, length-append, length-drop}
use Rattle.std.proofs.lemmas.List.{take-append-drop, drop-append-le, length-take, length-map}
use Rattle.pcm.specs.Frames.{written}
use Rattle.stage.specs.declared.Stage.{Stage}
use Rattle.stage.specs.Stages.{stage_clear}
use Rattle.pipeline.specs.declared.Pipeline.{Pipeline}
use Rattle.pipeline.specs.Reset.{reset_call}
use Rattle.pipeline.specs.WritingBack.{stages_of}
use Rattle.chain_words.specs.Kept.{sound_words, SettingsStay}
use Rattle.chain_words.specs.Layout.{stands, chain_of_words}
use Rattle.chains.specs.Words.{Outcome, reset_outcome}
use Rattle.chains.specs.laws.Words.{eight_at}
use Rattle.chain_words.specs.laws.Keeping.{length_walked}
use Rattle.chain_words.specs.laws.Front.{chain_front, stays_front, sound_front, cut_long, cut_stands, cut_chain}

-- at most eight stages are in use
few_cleared : (c : Pipeline) → length c.stages ≡ 8 → length (stages_of (reset_call c)) ≤ 8
unfolding reset_call
few_cleared c e = go (leb c.count 8)
  where
    go : (b : Bool) → length (stages_of (cond b (record { stages = map stage_clear (stages_of c) ++ drop c.count c.stages; count = c.count; format = c.format; blocks = c.blocks; empty_blocks = c.empty_blocks }) c)) ≤ 8
    go true = omega (
      arith,
      length-take {A = Stage} c.count (map stage_clear (stages_of c) ++ drop c.count c.stages),
      length-append (map stage_clear (stages_of c)) (drop c.count c.stages),
      length-map (stages_of c) stage_clear,
      length-take {A = Stage} c.count c.stages,
      length-drop c.count c.stages,
    )
    go false = omega (arith, length-take {A = Stage} c.count c.stages)

module _ (w x : List ℕ) (e : IsFirstChunk w x 152) where
  joined : x ++ drop 152 w ≡ w
  joined = ap (λ (l : List ℕ). l ++ drop 152 w) e.same ∙ take-append-drop 152 w

  pub long : length x ≡ 152
  long = cut_long w x e.enough e.same

  pub stood : stands w ≡ stands x
  stood = cut_stands w x e.enough e.same

  pub chain_is : chain_of_words w ≡ chain_of_words x
  chain_is = cut_chain w x e.enough e.same

  pub unchanged : (y : List ℕ) → y ≡ x → y ++ drop 152 w ≡ w
  unchanged y q = ap (λ (l : List ℕ). l ++ drop 152 w) q ∙ joined

  pub left_chain : (y : List ℕ) → length y ≡ 152 → chain_of_words (y ++ drop 152 w) ≡ chain_of_words y
  left_chain y m = chain_front (drop 152 w) y m

  pub left_stays : (y : List ℕ) → SettingsStay x y → SettingsStay w (y ++ drop 152 w)
  left_stays y s = subst (λ (l : List ℕ). SettingsStay l (y ++ drop 152 w)) joined (stays_front (drop 152 w) x y long (s.long ∙ long) s)

  pub left_sound : (y : List ℕ) → y ≡ sound_words x (reset_call (chain_of_words x)) → y ++ drop 152 w ≡ sound_words w (reset_call (chain_of_words w))
  left_sound y q =
      let d : Pipeline = reset_call (chain_of_words x) in
      ap (λ (l : List ℕ). l ++ drop 152 w) q
      ∙ sym (sound_front (drop 152 w) (stages_of (reset_call (chain_of_words x))) x d.blocks d.empty_blocks long (few_cleared (chain_of_words x) (eight_at x)))
      ∙ ap (λ (l : List ℕ). sound_words l (reset_call (chain_of_words x))) joined
      ∙ ap (λ (c : Pipeline). sound_words w (reset_call c)) (sym chain_is)

  pub sound_long : (y : List ℕ) → y ≡ sound_words x (reset_call (chain_of_words x)) → length y ≡ 152
  sound_long y q = ap length q ∙ length_walked x (stages_of (reset_call (chain_of_words x))) (reset_call (chain_of_words x)).blocks (reset_call (chain_of_words x)).empty_blocks ∙ long

  -- a reset of them is one of all
  pub left_reset : (n : ℕ) (y : List ℕ) → record { number = n; words = y } ≡ reset_outcome x → record { number = n; words = y ++ drop 152 w } ≡ reset_outcome w
  left_reset n y q = go (stands x) refl q
    where
      go : (b : Bool) → stands x ≡ b
          → ◌≡◌ {A = Outcome} (record { number = n; words = y }) (cond b (record { number = 0; words = sound_words x (reset_call (chain_of_words x)) }) (record { number = 1; words = x }))
          → record { number = n; words = y ++ drop 152 w } ≡ reset_outcome w
      go true s k = rw (stood ∙ s, ap (λ (o : Outcome). o.number) k, left_sound y (ap (λ (o : Outcome). o.words) k))
      go false s k = rw (stood ∙ s, ap (λ (o : Outcome). o.number) k, unchanged y (ap (λ (o : Outcome). o.words) k))

  pub reset_long : (n : ℕ) (y : List ℕ) → record { number = n; words = y } ≡ reset_outcome x → length y ≡ 152
  reset_long n y q = go (stands x) q
    where
      go : (b : Bool)
          → ◌≡◌ {A = Outcome} (record { number = n; words = y }) (cond b (record { number = 0; words = sound_words x (reset_call (chain_of_words x)) }) (record { number = 1; words = x }))
          → length y ≡ 152
      go true k = sound_long y (ap (λ (o : Outcome). o.words) k)
      go false k = ap length (ap (λ (o : Outcome). o.words) k) ∙ long

  -- what is written at their front is written at the front of all
  pub left_written : (vs : List ℕ) → length vs ≤ 152 → written vs x ++ drop 152 w ≡ written vs w
  unfolding written
  left_written vs n =
      append_assoc vs (drop (length vs) x) (drop 152 w)
      ∙ ap (λ (l : List ℕ). vs ++ l) (sym (drop-append-le (length vs) x (drop 152 w) (omega (arith, long))) ∙ ap (drop (length vs)) joined)
