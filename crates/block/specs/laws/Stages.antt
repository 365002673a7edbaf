-- The walk that plays: what holds before each stage, from one stage to the next, and at the end. Assumes nothing.
use Rattle.std.specs.Prelude.{◌≡◌, ◌⊎◌, Bool, true, false, cond, ℕ, ◌+◌, ◌*◌, ◌≤◌, ◌<◌, eqb, leb, length, take, drop, get_or, set, Ok}
use Rattle.std.proofs.Math.Path.{refl, ap, subst}
use Rattle.std.proofs.Common.{sym, ◌∙◌, inl, inr, ⊎_elim, le_refl, arith, eq-eqb, ne_eqb, eqb-true, leb-true, length-set}
use mathlib.Core.List.{List, ◌++◌}
use Rattle.std.proofs.lemmas.Bool.{eqb-false}
use Rattle.pcm.specs.declared.PcmFormat.{PcmFormat}
use Rattle.pcm.specs.declared.Error.TheVariants.{BufferTooSmall}
use Rattle.pcm.specs.Refusals.{ask}
use Rattle.pcm.specs.Samples.{Bytes}
use Rattle.pcm.specs.Frames.{Frame, FramesOf, frames_of, bytes_of, written}
use Rattle.pcm.specs.laws.Frames.{bytes_frames, length_frames, length_written}
use Rattle.stage.specs.declared.Stage.{Stage}
use Rattle.stage.specs.declared.SoundMemory.{SoundMemory}
use Rattle.stage.specs.Stages.{stage_out, stage_clipped, format_after}
use Rattle.stage.specs.Rooms.{stage_suits, frames_wanted}
use Rattle.stage.specs.laws.Rooms.{stage_count, wanted_holds}
use Rattle.pipeline.specs.declared.Pipeline.{Pipeline}
use Rattle.block.specs.Chain.{chain_out, chain_next, chain_clipped}
use Rattle.block.specs.laws.Chain.{chain_clipped-nil}
use Rattle.block.specs.laws.Clips.{Clips, clips_first, clips_over, clips_fit, clips_next}
use Rattle.block.specs.laws.Steps.{stages_end, drop_zero}
use Rattle.pipeline.specs.Reset.{format_leaving}
use Rattle.turns.specs.Turns.{Halves, halves, source_at, TurnAsks, TurnDoes, Takes, Makes}
use Rattle.pipeline.specs.WritingBack.{stages_of}
use Rattle.block.specs.BlockCall.{passed, shorter, halves_verdict, halves_after}
use Rattle.pcm.specs.laws.Refusals.{ask_yes}
use Rattle.block.specs.laws.Bounds.{legal_parts}
use Rattle.block.specs.laws.Turns.{Turns, Ended, Reached}
use Rattle.block.specs.Turns.{Accepts}
use Rattle.answers.specs.Answers.{unstaged, next_stage}
use Rattle.chains.specs.Chains.{with_stages}
use Rattle.block.specs.laws.Reaching.{Sized, positive, shorter_a, shorter_b, format_none, passed_none, turns_of, takes, suit_here, ahead, source_out, none_out, next_reached, sized_out, stopped, ended, begun}
use Rattle.stage.specs.Places.{no_stage}
use Rattle.block.specs.laws.Counts.{no_stages, some_stages, all_stages, halves_some}

-- after a stage that delivers something the next one has its turn, after any other none
pub stage_after : (i count len : ℕ) → (len ≡ 0 → ⊥) → i + 1 ≡ next_stage i count len
stage_after i count len h = rw (ne_eqb len 0 h)

pub stage_last : (i count len : ℕ) → len ≡ 0 → count ≡ next_stage i count len
stage_last i count len h = rw (eq-eqb len 0 h)

-- the frames that reach stage i + 1
abbrev pub reaching : PcmFormat → ℕ → ℕ → List ℕ → Halves → List Frame
reaching f n i block h = frames_of f.channels (source_at i n block h)

-- of what the stages `all` hold back of the block, what was held back before stage i + 1
abbrev pub ClipsAt : List Stage → ℕ → PcmFormat → List ℕ → PcmFormat → ℕ → ℕ → Halves → ℕ → Type 0
ClipsAt all count format block f n i h clipped =
    Clips count (chain_clipped all (frames_of format.channels block)) format.rate (chain_clipped (drop i all) (reaching f n i block h)) f (length (reaching f n i block h)) i clipped

-- before stage i + 1, or past the last one that was run: c is the call's chain with its stages moved, and so many samples were held back
pub record Plays (old : Pipeline) (count : ℕ) (format : PcmFormat) (block : List ℕ) (before : Halves) (short : ℕ)
    (c : Pipeline) (f : PcmFormat) (n i : ℕ) (h : Halves) (clipped : ℕ) : Type 0 where
  pub at_most : i ≤ count
  pub few : count ≤ 8
  pub long : length c.stages ≡ 8
  pub old_long : length old.stages ≡ 8
  pub same_a : length h.a ≡ length before.a
  pub same_b : length h.b ≡ length before.b
  pub room_a : short ≤ length before.a
  pub room_b : short ≤ length before.b
  pub chain : c ≡ with_stages old c.stages
  pub place : Reached old.stages count format block before short c.stages f n i h ⊎ ((i ≡ count) × Ended old.stages count format block before c.stages f n h)
  pub clips : ClipsAt (take count old.stages) count format block f n i h clipped

module _ (old : Pipeline) (count : ℕ) (format : PcmFormat) (block : List ℕ) (before : Halves) (short : ℕ)
    (c : Pipeline) (f : PcmFormat) (n i : ℕ) (h : Halves) (clipped : ℕ) (p : Plays old count format block before short c f n i h clipped) where
  abbrev pub s : Stage
  s = get_or c.stages i no_stage

  in_a : short ≤ length h.a
  in_a = omega (arith, p.room_a, p.same_a)

  in_b : short ≤ length h.b
  in_b = omega (arith, p.room_b, p.same_b)

  -- past the last stage
  pub at_end : count ≤ i → Ended old.stages count format block before c.stages f n h
  at_end l = ⊎_elim (λ r. ended _ _ _ _ _ _ _ _ _ _ _ r (omega (arith, p.at_most))) (λ e. e.1) p.place

  pub clips_end : count ≤ i → clipped ≡ chain_clipped (take count old.stages) (frames_of format.channels block)
  clips_end l = omega (arith, p.clips.is, ap (λ (r : List Stage). chain_clipped r (reaching f n i block h)) (stages_end old.stages count i l))

  module _ (more : i < count) where
    reached : Reached old.stages count format block before short c.stages f n i h
    reached = ⊎_elim (λ r. r) (λ e. absurd (let b : ⊥ = omega (arith, e.0) in b)) p.place

    -- what a turn asks
    pub turn_asks : TurnAsks i n block h (Takes f s)
    turn_asks = takes old.stages count format block before short c.stages f n i h no_stage reached more p.long p.old_long p.few in_a in_b

    source_good : FramesOf f.channels (reaching f n i block h)
    source_good = subst (FramesOf f.channels) (sym reached.source) reached.good

    -- the sum of what was held back fits
    pub sum_fits : {held : ℕ} → held ≡ stage_clipped s (reaching f n i block h) → clipped + held ≤ 38400000000000
    sum_fits q = clips_fit count _ format.rate _ f _ i clipped p.clips more p.few s (reaching f n i block h) refl source_good reached.channels.1 q

    -- the stage has had its turn, and stands in the chain again
    module _ (memory : SoundMemory) (len held : ℕ) (g : PcmFormat) (h' : Halves) (t : TurnDoes i n block h h' (Makes f s memory len held)) (e : g ≡ format_after f s.kind) where
      abbrev next : Stage
      next = record { kind = s.kind; memory = memory }

      abbrev turn : Turns f s next (frames_of f.channels (source_at i n block h)) i len h h'
      turn = turns_of f s memory i n len held block h h' t

      sized : Sized h h'
      sized = sized_out old.stages count format block before short c.stages f n i h no_stage reached more p.long p.old_long p.few in_a in_b next len g h' turn e

      place_next : Reached old.stages count format block before short (set c.stages i next) g len (next_stage i count len) h'
          ⊎ ((next_stage i count len ≡ count) × Ended old.stages count format block before (set c.stages i next) g len h')
      place_next = go (eqb len 0) refl
        where
          go : (b : Bool) → eqb len 0 ≡ b → Reached old.stages count format block before short (set c.stages i next) g len (cond b count (i + 1)) h'
              ⊎ ((cond b count (i + 1) ≡ count) × Ended old.stages count format block before (set c.stages i next) g len h')
          go true z = inr (refl, stopped old.stages count format block before short c.stages f n i h no_stage reached more p.long p.old_long p.few in_a in_b next len g h' turn e (eqb-true len 0 z))
          go false z = inl (next_reached old.stages count format block before short c.stages f n i h no_stage reached more p.long p.old_long p.few in_a in_b next len g h' turn e (eqb-false len 0 z))

      -- what comes to the next stage
      made : reaching g len (i + 1) block h' ≡ stage_out s reached.xs
      made = source_out old.stages count format block before short c.stages f n i h no_stage reached more p.long p.old_long p.few in_a in_b next len g h' turn e

      suit : stage_suits f s.kind s.memory ≡ true
      suit = suit_here old.stages count format block before short c.stages f n i h no_stage reached more p.long p.old_long p.few in_a in_b

      clipped_ahead : chain_clipped (drop i (take count old.stages)) (reaching f n i block h) ≡ stage_clipped s (reaching f n i block h) + chain_clipped (drop (i + 1) (take count old.stages)) (reaching g len (i + 1) block h')
      clipped_ahead =
          ap (λ (l : List Stage). chain_clipped l (reaching f n i block h)) (ahead old.stages count format block before short c.stages f n i h no_stage reached more p.long p.old_long p.few in_a in_b)
          ∙ ap (λ (ys : List Frame). stage_clipped s (reaching f n i block h) + chain_clipped (drop (i + 1) (take count old.stages)) ys) (ap (stage_out s) reached.source ∙ sym made)

      delivered : length (reaching g len (i + 1) block h') ≤ frames_wanted s.kind (length (reaching f n i block h))
      delivered = rw (made, reached.source, stage_count s reached.xs) (wanted_holds f s.memory s.kind (length reached.xs) suit)

      clips_after : ClipsAt (take count old.stages) count format block g len (i + 1) h' (clipped + held)
      clips_after =
          clips_next count _ format.rate _ f _ i clipped p.clips more p.few s (reaching f n i block h) refl source_good reached.channels.1 t.does.holds clipped_ahead suit delivered e

      clipped_over : len ≡ 0 → (j : ℕ) → count ≤ j → chain_clipped (drop (i + 1) (take count old.stages)) (reaching g len (i + 1) block h') ≡ chain_clipped (drop j (take count old.stages)) (reaching g len j block h')
      clipped_over z j l =
          ap (chain_clipped (drop (i + 1) (take count old.stages))) (made ∙ none_out old.stages count format block before short c.stages f n i h no_stage reached more p.long p.old_long p.few in_a in_b next len g h' turn e z)
          ∙ chain_clipped-nil (drop (i + 1) (take count old.stages))
          ∙ sym (ap (λ (r : List Stage). chain_clipped r (reaching g len j block h')) (stages_end old.stages count j l))

      clips_here : ClipsAt (take count old.stages) count format block g len (next_stage i count len) h' (clipped + held)
      clips_here = go (eqb len 0) refl
        where
          go : (b : Bool) → eqb len 0 ≡ b → ClipsAt (take count old.stages) count format block g len (cond b count (i + 1)) h' (clipped + held)
          go true z =
              clips_over count _ format.rate _ g _ (i + 1) (clipped + held) clips_after (omega arith) (clipped_over (eqb-true len 0 z) count (le_refl count))
          go false z = clips_after

      at_most_next : next_stage i count len ≤ count
      at_most_next = go (eqb len 0)
        where
          go : (b : Bool) → cond b count (i + 1) ≤ count
          go true = omega arith
          go false = omega arith

      -- the stage was stored
      pub stored : (k : ℕ) → k ≡ next_stage i count len → (c' : Pipeline) → c' ≡ with_stages c (set c.stages i next) → Plays old count format block before short c' g len k h' (clipped + held)
      unfolding with_stages
      stored k q c' m =
          subst (λ (d : Pipeline). Plays old count format block before short d g len k h' (clipped + held)) (sym (m ∙ ap (λ (d : Pipeline). with_stages d (set c.stages i next)) p.chain ∙ twice))
          (subst (λ (k : ℕ). Plays old count format block before short (with_stages old (set c.stages i next)) g len k h' (clipped + held)) (sym q) done)
        where
          twice : with_stages (with_stages old c.stages) (set c.stages i next) ≡ with_stages old (set c.stages i next)
          twice = refl

          done : Plays old count format block before short (with_stages old (set c.stages i next)) g len (next_stage i count len) h' (clipped + held)
          done = record {
            at_most = at_most_next;
            few = p.few;
            long = length-set c.stages i next ∙ p.long;
            old_long = p.old_long;
            same_a = sized.a ∙ p.same_a;
            same_b = sized.b ∙ p.same_b;
            room_a = p.room_a;
            room_b = p.room_b;
            chain = refl;
            place = place_next;
            clips = clips_here;
          }

-- ---- before the first stage
pub copy_room_lem : (c : Pipeline) (block a b : List ℕ) → c.count ≡ 0 → Accepts c block a b → length block ≤ shorter a b
copy_room_lem c block a b z w =
    let h : ask (leb (length block) (shorter a b)) (BufferTooSmall (2 * length block)) (Ok tt) ≡ Ok tt =
    sym (ap (λ (l : List Stage). halves_verdict c.format l (length block) (shorter a b)) (no_stages c z)) ∙ w.room in
    leb-true (length block) (shorter a b) (ask_yes (leb (length block) (shorter a b)) (BufferTooSmall (2 * length block)) (Ok tt) h).0

module _ (c : Pipeline) (block a b : List ℕ) (w : Accepts c block a b) (len : length c.stages ≡ 8) (bytes : Bytes block) where
  -- no stages: nothing is left to do
  none_left : (before : Halves) → c.count ≡ 0 → Ended c.stages c.count c.format block before c.stages c.format (length block) before
  none_left before z = record {
    keeps = sym (ap (λ (l : List Stage). chain_next l (frames_of c.format.channels block) ++ drop c.count c.stages) (no_stages c z) ∙ all_stages c z);
    size = sym (ap (λ (l : List Stage). length (bytes_of (chain_out l (frames_of c.format.channels block)))) (no_stages c z) ∙ ap length (bytes_frames c.format.channels block w.whole bytes));
    form = λ q. sym (ap (format_leaving c.format) (no_stages c z) ∙ format_none c.format);
    halves_are = sym (ap (λ (l : List Stage). passed 0 l (frames_of c.format.channels block) before) (no_stages c z) ∙ passed_none 0 (frames_of c.format.channels block) before);
  }

  module _ (a₀ : List ℕ) (short : ℕ) (u : a₀ ≡ unstaged c.count block a) (v : short ≡ shorter a b) where
    pub copied : c.count ≡ 0 → a₀ ≡ written block a
    copied z = u ∙ rw (eq-eqb c.count 0 z)

    kept : (c.count ≡ 0 → ⊥) → a₀ ≡ a
    kept z = u ∙ rw (ne_eqb c.count 0 z)

    pub length_first : length a₀ ≡ length a
    length_first = go (eqb c.count 0) refl
      where
        go : (t : Bool) → eqb c.count 0 ≡ t → length a₀ ≡ length a
        go true k = ap length (copied (eqb-true _ _ k)) ∙ length_written block a (omega (arith, copy_room_lem c block a b (eqb-true _ _ k) w, shorter_a a b))
        go false k = ap length (kept (eqb-false _ _ k))

    place_first : Reached c.stages c.count c.format block (halves a₀ b) short c.stages c.format (length block) 0 (halves a₀ b)
        ⊎ ((0 ≡ c.count) × Ended c.stages c.count c.format block (halves a₀ b) c.stages c.format (length block) (halves a₀ b))
    place_first = go (eqb c.count 0) refl
      where
        go : (t : Bool) → eqb c.count 0 ≡ t → Reached c.stages c.count c.format block (halves a₀ b) short c.stages c.format (length block) 0 (halves a₀ b)
            ⊎ ((0 ≡ c.count) × Ended c.stages c.count c.format block (halves a₀ b) c.stages c.format (length block) (halves a₀ b))
        go true k = inr (sym (eqb-true _ _ k), none_left (halves a₀ b) (eqb-true _ _ k))
        go false k =
            inl (subst (λ (l : List ℕ). Reached c.stages c.count c.format block (halves l b) short c.stages c.format (length block) 0 (halves l b)) (sym (kept (eqb-false _ _ k)))
            (subst (λ (m : ℕ). Reached c.stages c.count c.format block (halves a b) m c.stages c.format (length block) 0 (halves a b)) (sym v)
            (begun c block a b w len bytes (positive c.count (eqb-false _ _ k)))))

    clips_begun : ClipsAt (stages_of c) c.count c.format block c.format (length block) 0 (halves a₀ b) 0
    clips_begun =
        subst (λ (l : List Stage). Clips c.count (chain_clipped (stages_of c) (frames_of c.format.channels block)) c.format.rate (chain_clipped l (frames_of c.format.channels block)) c.format (length (frames_of c.format.channels block)) 0 0)
        (sym (drop_zero (stages_of c)))
        (clips_first c.count _ c.format.rate c.format (length (frames_of c.format.channels block)) (legal_parts c w.chain).rate refl (rw (length_frames c.format.channels block) w.most))

    pub plays_first : Plays c c.count c.format block (halves a₀ b) short c c.format (length block) 0 (halves a₀ b) 0
    unfolding with_stages
    plays_first = record {
      at_most = omega arith;
      few = (legal_parts c w.chain).few;
      long = len;
      old_long = len;
      same_a = refl;
      same_b = refl;
      room_a = omega (arith, shorter_a a b, length_first);
      room_b = omega (arith, shorter_b a b);
      chain = same;
      place = place_first;
      clips = clips_begun;
    }
      where
        same : c ≡ with_stages c c.stages
        same = refl

  -- ---- and at the end: the halves are those of the definition
  pub halves_end : (a₀ : List ℕ) → a₀ ≡ unstaged c.count block a
      → passed 0 (stages_of c) (frames_of c.format.channels block) (halves a₀ b) ≡ halves_after (stages_of c) (frames_of c.format.channels block) block (halves a b)
  halves_end a₀ u = go (eqb c.count 0) refl
    where
      go : (t : Bool) → eqb c.count 0 ≡ t → passed 0 (stages_of c) (frames_of c.format.channels block) (halves a₀ b) ≡ halves_after (stages_of c) (frames_of c.format.channels block) block (halves a b)
      go true k =
          ap (λ (l : List Stage). passed 0 l (frames_of c.format.channels block) (halves a₀ b)) (no_stages c (eqb-true _ _ k)) ∙ passed_none 0 (frames_of c.format.channels block) (halves a₀ b)
          ∙ ap (λ (l : List ℕ). halves l b) (u ∙ rw k)
          ∙ sym (ap (λ (l : List Stage). halves_after l (frames_of c.format.channels block) block (halves a b)) (no_stages c (eqb-true _ _ k)))
      go false k =
          ap (λ (l : List ℕ). passed 0 (stages_of c) (frames_of c.format.channels block) (halves l b)) (u ∙ rw k)
          ∙ halves_some (stages_of c) (frames_of c.format.channels block) block (halves a b) (some_stages c (legal_parts c w.chain).few (eqb-false _ _ k) len)
