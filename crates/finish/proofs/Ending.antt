-- The stages that end, of a chain that answered its head: from one to the next and to the end. Assumes nothing.
use Rattle.std.specs.Prelude.{◌≡◌, List, [], ℕ, ◌+◌, ◌≤◌, ◌<◌, length, take, get_or, Ok}
use Rattle.std.proofs.Common.{sym, ap, ◌∙◌, subst, arith, length-take-le, get_or-take}
use Rattle.pcm.specs.declared.PcmFormat.{PcmFormat}
use Rattle.pcm.specs.Frames.{frames_of}
use Rattle.stage.specs.declared.Stage.{Stage}
use Rattle.stage.specs.Stages.{stage_clipped, format_after}
use Rattle.stage.specs.Places.{no_stage}
use Rattle.pipeline.specs.declared.Pipeline.{Pipeline}
use Rattle.pipeline.specs.Reset.{reset_call}
use Rattle.answers.specs.declared.Answer.{Answer}
use Rattle.answers.specs.Answers.{last_half, output_answer}
use Rattle.turns.specs.Turns.{Halves, halves, source_at, TurnAsks}
use Rattle.end_turns.specs.EndTurns.{ServedToEnd}
use Rattle.chains.specs.declared.Head.{Head}
use Rattle.chains.specs.Chains.{stage_in, Headed}
use Rattle.block.specs.BlockCall.{shorter}
use Rattle.block.specs.laws.Heads.{count_is, own_few}
use Rattle.finish.specs.FinishCall.{finished}
use Rattle.finish.specs.Turns.{EndTurn, Finishes}
use Rattle.finish.proofs.Reaching.{EndReached, begun, asks, sum_fits, next_reached, ended_size, ended_clipped, ended_format, ended_halves_lem}

module _ (c : Pipeline) (own : Head) (e : Headed c own) where
  -- before the first stage
  pub ends_begin : (a b : List ℕ) → Finishes c a b → EndReached c.stages own.count own.format (halves a b) (shorter a b) own.format 0 0 (halves a b) 0
  ends_begin a b w = subst (λ (h : Head). EndReached c.stages h.count h.format (halves a b) (shorter a b) h.format 0 0 (halves a b) 0) (sym e.is) (begun c a b w)

  in_use : length (take own.count c.stages) ≡ own.count
  in_use = length-take-le own.count c.stages (omega (arith, own_few c own e, e.eight))

  module _ (before : Halves) (short : ℕ) (f : PcmFormat) (n i : ℕ) (h : Halves) (clipped : ℕ) (r : EndReached c.stages own.count own.format before short f n i h clipped) where
    -- ---- one stage
    module _ (more : i < own.count) (in_a : short ≤ length h.a) (in_b : short ≤ length h.b) (s : Stage) (at : s ≡ stage_in c i) where
      there : i < length (take own.count c.stages)
      there = omega (arith, more, in_use)

      here : get_or (take own.count c.stages) i no_stage ≡ s
      here = get_or-take own.count c.stages i no_stage more ∙ sym at

      pub asks_at : TurnAsks i n [] h (ServedToEnd f s)
      asks_at =
          subst (λ (x : Stage). TurnAsks i n [] h (ServedToEnd f x)) here
          (asks c.stages own.count own.format before short f n i h clipped no_stage r there (own_few c own e) in_a in_b)

      -- the sum of what was held back fits
      pub sum_at : {held : ℕ} → held ≡ stage_clipped s (frames_of f.channels (source_at i n [] h)) → clipped + held ≤ 38400000000000
      sum_at {held} q =
          sum_fits c.stages own.count own.format before short f n i h clipped no_stage r there (own_few c own e) in_a in_b
          (subst (λ (x : Stage). held ≡ stage_clipped x (frames_of f.channels (source_at i n [] h))) (sym here) q)

      pub ends_next : (m held : ℕ) (g : PcmFormat) (h' : Halves) → EndTurn f s (frames_of f.channels (source_at i n [] h)) i m held h h' → g ≡ format_after f s.kind
          → EndReached c.stages own.count own.format before short g m (i + 1) h' (clipped + held)
      ends_next m held g h' t k =
          next_reached c.stages own.count own.format before short f n i h clipped no_stage r there (own_few c own e) in_a in_b m held g h'
          (subst (λ (x : Stage). EndTurn f x (frames_of f.channels (source_at i n [] h)) i m held h h') (sym here) t)
          (subst (λ (x : Stage). g ≡ format_after f x.kind) (sym here) k)

    -- ---- past the last
    module _ (last : own.count ≤ i) where
      whole : EndReached c.stages c.count c.format before short f n i h clipped
      whole = subst (λ (x : Head). EndReached c.stages x.count x.format before short f n i h clipped) e.is r

      over : length (take c.count c.stages) ≤ i
      over = omega (arith, last, in_use, ap (λ (k : ℕ). length (take k c.stages)) (count_is c own e))

      pub ends_finished : (d : Pipeline) (answer : Answer (Unit {0})) → d ≡ reset_call c → answer ≡ output_answer f tt (last_half own.count) n clipped
          → record { chain = d; answer = Ok answer; a = h.a; b = h.b } ≡ finished c before
      unfolding finished
      ends_finished d answer q k = rw (
        q,
        k,
        count_is c own e,
        ended_format c.stages c.count c.format before short f n i h clipped whole over,
        ended_size c.stages c.count c.format before short f n i h clipped whole over,
        ended_clipped c.stages c.count c.format before short f n i h clipped whole over,
        ended_halves_lem c.stages c.count c.format before short f n i h clipped whole over,
      )
