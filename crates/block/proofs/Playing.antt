-- The walk that plays, on a chain that answered its head: from one stage to the next and to the end. Assumes nothing.
use Rattle.std.specs.Prelude.{◌≡◌, refl, List, ℕ, ◌+◌, ◌≤◌, ◌<◌, min, length, set, Ok}
use Rattle.std.proofs.Common.{sym, ap, ◌∙◌, subst, arith}
use Rattle.pcm.specs.declared.PcmFormat.{PcmFormat}
use Rattle.pcm.specs.Samples.{Bytes}
use Rattle.pcm.specs.Frames.{frames_of}
use Rattle.stage.specs.declared.Stage.{Stage}
use Rattle.stage.specs.declared.SoundMemory.{SoundMemory}
use Rattle.stage.specs.Stages.{stage_clipped, format_after}
use Rattle.pipeline.specs.declared.Pipeline.{Pipeline}
use Rattle.answers.specs.declared.Answer.{Answer}
use Rattle.answers.specs.Answers.{last_half, output_answer, unstaged, next_stage}
use Rattle.turns.specs.Turns.{Halves, halves, source_at, TurnAsks, TurnDoes, Takes, Makes}
use Rattle.chains.specs.declared.Head.{Head}
use Rattle.chains.specs.Chains.{InUse, stage_in, Headed, with_stages, counted}
use Rattle.block.specs.BlockCall.{accepted, shorter}
use Rattle.block.specs.Turns.{Accepts}
use Rattle.block.specs.laws.Reaching.{shorter_a}
use Rattle.block.specs.laws.Stages.{Plays, turn_asks, sum_fits, stored, at_end, clips_end, plays_first, copy_room_lem, length_first}
use Rattle.block.specs.laws.Concluding.{concludes_accepted}

-- the chain has so many stages still
same_count : (c d : Pipeline) (l : List Stage) → d ≡ with_stages c l → d.count ≡ c.count
unfolding with_stages
same_count c d l e = ap (λ (x : Pipeline). x.count) e

module _ (c : Pipeline) (own : Head) (e : Headed c own) (block a b : List ℕ) (w : Accepts c block a b) where
  count_is : own.count ≡ c.count
  count_is = ap (λ (h : Head). h.count) e.is

  -- no stages: the block has room in half a
  pub copy_fits : own.count ≡ 0 → length block ≤ length a
  copy_fits z = omega (arith, copy_room_lem c block a b (sym count_is ∙ z) w, shorter_a a b)

  module _ (bytes : Bytes block) (a₀ : List ℕ) (u : a₀ ≡ unstaged own.count block a) where
    copied : a₀ ≡ unstaged c.count block a
    copied = u ∙ ap (λ (n : ℕ). unstaged n block a) count_is

    -- ---- before the first stage
    pub plays_begin : Plays c own.count own.format block (halves a₀ b) (shorter a₀ b) c own.format (length block) 0 (halves a₀ b) 0
    plays_begin =
        subst (λ (h : Head). Plays c h.count h.format block (halves a₀ b) (shorter a₀ b) c h.format (length block) 0 (halves a₀ b) 0) (sym e.is)
        (plays_first c block a b w e.eight bytes a₀ (shorter a₀ b) copied (ap (λ (n : ℕ). min n (length b)) (length_first c block a b w e.eight bytes a₀ (shorter a b) copied refl)))

    -- ---- past the last
    module _ (d : Pipeline) (f : PcmFormat) (len i : ℕ) (h : Halves) (clipped : ℕ) (p : Plays c own.count own.format block (halves a₀ b) (shorter a₀ b) d f len i h clipped) (end : own.count ≤ i) where
      plays : Plays c c.count c.format block (halves a₀ b) (shorter a₀ b) d f len i h clipped
      plays = subst (λ (h₀ : Head). Plays c h₀.count h₀.format block (halves a₀ b) (shorter a₀ b) d f len i h clipped) e.is p

      over : c.count ≤ i
      over = omega (arith, end, count_is)

      pub plays_end : (t : ℕ) (d' : Pipeline) (answer : Answer ℕ) → d' ≡ counted d len → answer ≡ output_answer f t (last_half own.count) len clipped
          → record { chain = d'; answer = Ok answer; a = h.a; b = h.b } ≡ accepted c t block (halves a b)
      unfolding counted
      plays_end t d' answer q r =
          ap (λ (x : Pipeline). record { chain = x; answer = Ok answer; a = h.a; b = h.b }) q
          ∙ concludes_accepted c c.format t block a b w e.eight bytes a₀ copied d.stages f len h (at_end c c.count c.format block (halves a₀ b) (shorter a₀ b) d f len i h clipped plays over)
          clipped (clips_end c c.count c.format block (halves a₀ b) (shorter a₀ b) d f len i h clipped plays over) d plays.chain _ _ answer refl refl
          (r ∙ ap (λ (n : ℕ). output_answer f t (last_half n) len clipped) count_is)

-- ---- one stage
module _ (c : Pipeline) (own : Head) (e : Headed c own) (block : List ℕ) (before : Halves) (short : ℕ) (d : Pipeline) (f : PcmFormat) (n i : ℕ) (h : Halves) (clipped : ℕ)
    (p : Plays c own.count own.format block before short d f n i h clipped) where
  count_then : d.count ≡ own.count
  count_then = same_count c d d.stages p.chain ∙ sym (ap (λ (x : Head). x.count) e.is)

  pub few_then : d.count ≤ 8
  few_then = omega (arith, count_then, p.few)

  pub few_held : (d' : Pipeline) (l : List Stage) → d' ≡ with_stages d l → d'.count ≤ 8
  few_held d' l q = omega (arith, same_count d d' l q, few_then)

  module _ (more : i < own.count) where
    pub in_use : InUse d i
    in_use = record { few = few_then; used = omega (arith, count_then, more) }

    module _ (s : Stage) (at : s ≡ stage_in d i) where
      -- what a turn asks
      pub asks_at : TurnAsks i n block h (Takes f s)
      asks_at = subst (λ (x : Stage). TurnAsks i n block h (Takes f x)) (sym at) (turn_asks c own.count own.format block before short d f n i h clipped p more)

      -- the sum of what was held back fits
      pub sum_at : {held : ℕ} → held ≡ stage_clipped s (frames_of f.channels (source_at i n block h)) → clipped + held ≤ 38400000000000
      sum_at {held} q =
          sum_fits c own.count own.format block before short d f n i h clipped p more
          (subst (λ (x : Stage). held ≡ stage_clipped x (frames_of f.channels (source_at i n block h))) at q)

      -- the stage has had its turn, and is kept: j is where the walk stands then
      pub plays_next : (memory : SoundMemory) (len held : ℕ) (g : PcmFormat) (h' : Halves) → TurnDoes i n block h h' (Makes f s memory len held) → g ≡ format_after f s.kind
          → (d' : Pipeline) → d' ≡ with_stages d (set d.stages i (record { kind = s.kind; memory = memory })) → (j : ℕ) → j ≡ next_stage i own.count len
          → Plays c own.count own.format block before short d' g len j h' (clipped + held)
      plays_next memory len held g h' t k d' q j r =
          stored c own.count own.format block before short d f n i h clipped p more memory len held g h'
          (subst (λ (x : Stage). TurnDoes i n block h h' (Makes f x memory len held)) at t)
          (subst (λ (x : Stage). g ≡ format_after f x.kind) at k)
          j r d'
          (subst (λ (x : Stage). d' ≡ with_stages d (set d.stages i (record { kind = x.kind; memory = memory }))) at q)
