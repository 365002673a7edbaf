-- What is read and written of words, as the chain that they stand for. Assumes nothing.
use Rattle.std.specs.Prelude.{◌≡◌, refl, Bool, true, false, cond, ◌&&◌, List, ℕ, zero, suc, ◌+◌, ◌*◌, ◌≤◌, ◌<◌, leb, length, get_or, set, Ok, Err}
use Rattle.std.proofs.Common.{sym, ap, ◌∙◌, subst, arith}
use Rattle.std.proofs.lemmas.List.Edits.{sets}
use Rattle.pcm.specs.declared.Error.TheVariants.{InvalidFormat}
use Rattle.pcm.specs.Formats.{format_allowed}
use Rattle.pcm.specs.laws.Tests.{both}
use Rattle.stage.specs.declared.Stage.{Stage}
use Rattle.stage.specs.declared.StageKind.{StageKind}
use Rattle.stage.specs.Stages.{stage_next}
use Rattle.stage.specs.Places.{no_stage}
use Rattle.pipeline.specs.declared.Pipeline.{Pipeline}
use Rattle.pipeline.specs.Reset.{reset_call}
use Rattle.answers.specs.Answers.{counted_up, counted_if}
use Rattle.stage_words.specs.Layout.{held_at, held_words, word}
use Rattle.stage_words.specs.Storable.{HeldBy}
use Rattle.stage_words.specs.laws.HeldParts.{held_past, held_within, held_written}
use Rattle.stage_words.specs.laws.Reading.{small_stage}
use Rattle.stage_words.specs.laws.Small.{small_next}
use Rattle.chain_words.specs.Kept.{SettingsStay}
use Rattle.chain_words.specs.Layout.{counter_words, place_of, stage_at, stages_from, format_of, counter_at, chain_at, stands, no_chain, chain_of_words}
use Rattle.chain_words.specs.laws.Chains.{stands_long, stands_chain, few_stands, no_words}
use Rattle.chain_words.specs.laws.Places.{place_small}
use Rattle.chains.specs.Chains.{head_of, InUse, stage_in, Follows, with_stages, counted}
use Rattle.chains.proofs.Cleared.{count_of_words, no_chain_reset}
use Rattle.chains.specs.laws.Words.{stage_of_eight, put_stays, chain_put, counted_stays, chain_counted, stays_stand}

-- ---- its parts
count_at : (w : List ℕ) → (chain_at w).count ≡ word w 0
unfolding chain_at
count_at w = refl

-- ---- the head
few_words : (w : List ℕ) → stands w ≡ true → leb (word w 0) 8 ≡ true
unfolding stands
few_words w h = (both (leb (word w 0) 8) _ (both (leb 152 (length w)) _ h).1).0

pub head_at : (w : List ℕ) → head_of (chain_of_words w) ≡ cond (stands w && format_allowed (format_of w)) (Ok (record { format = format_of w; count = word w 0 })) (Err InvalidFormat)
unfolding chain_of_words chain_at
head_at w = go (stands w) (few_words w)
  where
    go : (b : Bool) → (b ≡ true → leb (word w 0) 8 ≡ true)
        → head_of (cond b (chain_at w) no_chain) ≡ cond (b && format_allowed (format_of w)) (Ok (record { format = format_of w; count = word w 0 })) (Err InvalidFormat)
    go true h = rw (h refl)
    go false h = refl

-- ---- one stage
module _ (w : List ℕ) (i : ℕ) (u : InUse (chain_of_words w) i) where
  stood : stands w ≡ true
  stood = few_stands w u.few

  is_at : chain_of_words w ≡ chain_at w
  is_at = stands_chain w stood

  pub below_eight : i < 8
  below_eight = omega (arith, u.few, u.used)

  pub stage_is : stage_at w i ≡ stage_in (chain_of_words w) i
  stage_is = sym (ap (λ (c : Pipeline). stage_in c i) is_at ∙ stage_of_eight w i no_stage below_eight)

  used_word : i < word w 0
  used_word = omega (arith, u.used, ap (λ (c : Pipeline). c.count) is_at, count_at w)

  module _ (s : Stage) (f : Follows (stage_in (chain_of_words w) i) s) (fits : (j : ℕ) → word w j < 4294967296)
      (w' : List ℕ) (e : w' ≡ sets w (8 + 18 * i + held_at s.kind) (held_words s.kind s.memory)) (held : HeldBy s.kind s.memory) where
    pub held_stays : SettingsStay w w'
    held_stays = subst (SettingsStay w) (sym e) (put_stays w i (held_at s.kind) (held_words s.kind s.memory) (held_past s.kind) (held_within s.kind s.memory) used_word)

    next_at : s ≡ stage_next (stage_at w i) f.frames
    next_at = f.is ∙ ap (λ (x : Stage). stage_next x f.frames) (sym stage_is)

    same_kind : s.kind ≡ (stage_at w i).kind
    unfolding stage_next
    same_kind = ap (λ (x : Stage). x.kind) next_at

    phase_next : s.memory.resampler.phase < 4294967296
    phase_next = subst (λ (x : Stage). x.memory.resampler.phase < 4294967296) (sym next_at) (small_next (stage_at w i) f.frames (small_stage (place_of w i) (place_small w i fits))).phase

    placed : stage_at (sets w (8 + 18 * i + held_at s.kind) (held_words s.kind s.memory)) i ≡ s
    placed =
        subst (λ (k : StageKind). stage_at (sets w (8 + 18 * i + held_at k) (held_words k s.memory)) i ≡ record { kind = k; memory = s.memory }) (sym same_kind)
        (held_written w (8 + 18 * i) (omega (arith, below_eight, stands_long w stood)) s.memory f.frames phase_next
        (ap (λ (k : StageKind). record { kind = k; memory = s.memory }) (sym same_kind) ∙ next_at)
        (subst (λ (k : StageKind). HeldBy k s.memory) same_kind held))

    pub held_chain : chain_of_words w' ≡ with_stages (chain_of_words w) (set (chain_of_words w).stages i s)
    held_chain =
        stands_chain w' (stays_stand w w' stood held_stays) ∙ ap chain_at e
        ∙ chain_put w i (held_at s.kind) (held_words s.kind s.memory) (held_past s.kind) (held_within s.kind s.memory) s placed
        ∙ ap (λ (c : Pipeline). with_stages c (set c.stages i s)) (sym is_at)

-- ---- the counters
module _ (w : List ℕ) (few : (chain_of_words w).count ≤ 8) (len : ℕ) (w' : List ℕ)
    (e : w' ≡ sets w 3 (counter_words (counted_up (counter_at w 3)) (counted_if len (counter_at w 5)))) where
  fits : 8 ≤ length w
  fits = omega (arith, stands_long w (few_stands w few))

  pub counts_stay : SettingsStay w w'
  counts_stay = subst (SettingsStay w) (sym e) (counted_stays w _ _ fits)

  same_counters : record { stages = (chain_at w).stages; count = (chain_at w).count; format = (chain_at w).format; blocks = counted_up (counter_at w 3); empty_blocks = counted_if len (counter_at w 5) } ≡ counted (chain_at w) len
  unfolding chain_at counted
  same_counters = refl

  pub counts_chain : chain_of_words w' ≡ counted (chain_of_words w) len
  counts_chain =
      stands_chain w' (stays_stand w w' (few_stands w few) counts_stay) ∙ ap chain_at e ∙ chain_counted w _ _ fits ∙ same_counters
      ∙ ap (λ (c : Pipeline). counted c len) (sym (stands_chain w (few_stands w few)))

-- ---- a reset
-- words that stand for no chain stand for none afterwards
pub no_reset : (w : List ℕ) → stands w ≡ false → chain_of_words w ≡ reset_call (chain_of_words w)
no_reset w h = rw (no_words w h) (sym no_chain_reset)

-- those that stand for one have few stages
pub few_of : (w : List ℕ) → stands w ≡ true → (chain_of_words w).count ≤ 8
few_of w h = count_of_words w h
