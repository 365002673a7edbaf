-- Laws of the definitions in Resamplers. Assumes nothing.
use Rattle.std.specs.Prelude.{◌≡◌, refl, true, take, drop, get_or}
use Rattle.std.proofs.Common.{sym, ap₂, not-suc-le-zero, le_of_suc-le-suc, ne_eqb}
use Rattle.std.proofs.Math.Path.{ap, subst}
use mathlib.Core.List.{List, [], ◌∷◌, ◌++◌, map}
use Prim.Native.Nat.{ℕ, zero, suc, ◌+◌, ◌-◌, ◌*◌, ◌≤◌, ◌<◌}
use native.Mathlib.Omega.{arith}
use Rattle.std.proofs.Math.ListN.{length}
use Rattle.std.proofs.Math.Facts.{sfits_lit}
use Rattle.pcm.specs.declared.PcmFormat.{PcmFormat}
use Rattle.pcm.specs.Samples.{All}
use Rattle.pcm.specs.Frames.{Frame, FrameOf, FramesOf}
use Rattle.pcm.specs.laws.Frames.{all_append}
use Rattle.rates.specs.declared.LinearResampler.{LinearResampler}
use Rattle.rates.specs.laws.Counting.{ceil_least}
use Rattle.resample.specs.Resample.{whole_outputs, resampled_whole, state_whole}
use Rattle.rates.specs.Rates.{opened_state, Rates, reduced}
use Rattle.resample.specs.laws.Delivered.{carried_is_whole}
use Rattle.resample.proofs.laws.Neighbours.{carried_frames}
use Rattle.resample.proofs.Theorems.{delivered_exactly, delivered_by_rates, sound_phase, whole_sample}
use Rattle.stage.specs.declared.StageKind.{StageKind}
use Rattle.stage.specs.declared.StageKind.TheVariants as kind
use Rattle.stage.specs.Stages.{stage_as_opened, memory_as_opened, format_after}
use Rattle.stage.specs.Rooms.{stage_suits}
use Rattle.stage.specs.laws.Rooms.{resamples, channels_after}
use Rattle.ending.specs.ResamplerEnd.{on_last, whole_last}
use Rattle.ending.specs.laws.ResamplerEnd.{on_last_frames}
use Rattle.ending.specs.Theorems.{ended_exactly, ended_by_rates, ended_sample}
use Rattle.pipeline.specs.Reset.{format_leaving}
use Rattle.block.specs.BlockCall.{suited}
use Rattle.stream.specs.Opened.{RatesReduced}
use Rattle.stream.specs.PlainChain.{plain_stage, through, received_by, delivered_by}
use Rattle.stream.proofs.laws.PlainChain.{plain_frames}
use Rattle.stream.specs.PlainEnd.{plain_last, plain_ended, received_at_end, delivered_at_end}
use Rattle.stream.proofs.laws.PlainEnd.{ended_frames}
use Rattle.block.specs.laws.Bounds.{suited_first, suited_rest}
use Rattle.stream.specs.Resamplers.{Resampled, ResampledToEnd}

-- ---- by itself
all_at : {A : Type 0} (P : A → Type 0) (d : A) (l : List A) (i : ℕ) → All P l → i < length l → P (get_or l i d)
all_at P d [] i h k = absurd (not-suc-le-zero k)
all_at P d (x ∷ l) zero h k = h.0
all_at P d (x ∷ l) (suc i) h k = all_at P d l i h.1 (le_of_suc-le-suc k)

none_of : {A : Type 0} (l : List A) → length l ≤ 0 → l ≡ []
none_of [] h = refl
none_of (x ∷ l) h = absurd (not-suc-le-zero h)

delivered_frames : (ch i o : ℕ) (X : List Frame) → FramesOf ch X → FramesOf ch (whole_outputs i o X)
delivered_frames ch i o X a = subst (FramesOf ch) (carried_is_whole i o X) (carried_frames ch i o opened_state X (sfits_lit tt, (sfits_lit tt, tt)) a)

module _ (r : LinearResampler) (rates : Rates r) (unequal : r.in_rate ≡ r.out_rate → ⊥) where
  whole_is_delivered : (X : List Frame) → resampled_whole r X ≡ whole_outputs r.in_r r.out_r X
  unfolding resampled_whole
  whole_is_delivered X = rw (ne_eqb r.in_rate r.out_rate unequal)

  phase_stands : (X : List Frame) → 0 < length X → (state_whole r X).phase + (length X - 1) * r.out_r ≡ length (whole_outputs r.in_r r.out_r X) * r.in_r
  unfolding state_whole
  phase_stands [] h = absurd (not-suc-le-zero h)
  phase_stands (x ∷ xs) h =
      let e : suc (length xs) - 1 ≡ length xs = omega arith in
      rw (ne_eqb r.in_rate r.out_rate unequal, e) (sound_phase r.in_r r.out_r rates.in_r.0 x xs)

  delivered_parts : (ch : ℕ) (X : List Frame) → r ≡ reduced r.in_rate r.out_rate → FramesOf ch X → Resampled r X (whole_outputs r.in_r r.out_r X)
  delivered_parts ch X e a = record {
    rates = e;
    none = λ z. none_of _ (rw (delivered_by_rates r rates X, z) (ceil_least r.in_rate rates.input_rate.0 (0 * r.out_rate) 0 (omega arith)));
    many = λ h. delivered_by_rates r rates X;
    exactly = delivered_exactly r.in_r r.out_r rates.in_r.0 X;
    samples = λ k c h l.
        let f = all_at (FrameOf ch) [] (whole_outputs r.in_r r.out_r X) k (delivered_frames ch r.in_r r.out_r X a) h in
        whole_sample ch r.in_r r.out_r X a k c h (rw f.size at l);
    phase = phase_stands X;
  }

  ended_parts : (ch : ℕ) (X : List Frame) → r ≡ reduced r.in_rate r.out_rate → FramesOf ch X
      → ResampledToEnd r X (whole_outputs r.in_r r.out_r X ++ on_last r.in_r r.out_r X)
  unfolding on_last
  ended_parts ch X e a = record {
    rates = e;
    none = λ z. nothing X z;
    many = ended_by_rates r rates X;
    exactly = ended_exactly r.in_r r.out_r rates.in_r.0 X;
    samples = λ k c h l.
        let f = all_at (FrameOf ch) [] (whole_outputs r.in_r r.out_r X ++ on_last r.in_r r.out_r X) k
        (all_append (FrameOf ch) (whole_outputs r.in_r r.out_r X) (on_last r.in_r r.out_r X) (delivered_frames ch r.in_r r.out_r X a) (on_last_frames r.in_r r.out_r rates.in_r.0 ch X a)) h in
        ended_sample ch r.in_r r.out_r rates.in_r.0 rates.out_r.0 X a k c h (rw f.size at l);
  }
    where
      nothing : (X : List Frame) → X ≡ [] → whole_outputs r.in_r r.out_r X ++ on_last r.in_r r.out_r X ≡ []
      nothing [] z = ap (λ (l : List Frame). l ++ []) ((delivered_parts ch [] e tt).none refl)
      nothing (x ∷ xs) z = cc

  whole_last_is : (X : List Frame) → whole_last r X ≡ on_last r.in_r r.out_r X
  unfolding whole_last
  whole_last_is X = rw (ne_eqb r.in_rate r.out_rate unequal)

module _ (f : PcmFormat) (r : LinearResampler) (X : List Frame) (suit : stage_suits f (kind.Resample r) memory_as_opened ≡ true) (reduces : RatesReduced (kind.Resample r))
    (unequal : r.in_rate ≡ r.out_rate → ⊥) (a : FramesOf f.channels X) where
  resampler_is : Resampled r X (plain_stage (kind.Resample r) X)
  unfolding plain_stage
  resampler_is =
      let rates = (resamples f r memory_as_opened suit).rates in
      subst (Resampled r X) (sym (whole_is_delivered r rates unequal X)) (delivered_parts r rates unequal f.channels X reduces a)

  ended_resampler_is : ResampledToEnd r X (plain_ended (kind.Resample r) X)
  unfolding plain_ended plain_last plain_stage
  ended_resampler_is =
      let rates = (resamples f r memory_as_opened suit).rates in
      subst (ResampledToEnd r X) (sym (ap₂ (λ (u v : List Frame). u ++ v) (whole_is_delivered r rates unequal X) (whole_last_is r rates unequal X))) (ended_parts r rates unequal f.channels X reduces a)

-- ---- in a chain
-- the format that reaches a stage suits it, and frames of one or two channels arrive
pub record Arrives (f : PcmFormat) (k : StageKind) (X : List Frame) : Type 0 where
  pub suit : stage_suits f k memory_as_opened ≡ true
  pub channels : (0 < f.channels) × (f.channels ≤ 2)
  pub frames : FramesOf f.channels X

no_stage_lem : (k : StageKind) (ks : List StageKind) → [] ≡ k ∷ ks → ⊥
no_stage_lem k ks e = let z : ◌≡◌ {A = ℕ} 0 1 = cc in omega arith

first_arrives : (f : PcmFormat) (k : StageKind) (ks : List StageKind) (X : List Frame) → suited f (map stage_as_opened (k ∷ ks)) ≡ true → (0 < f.channels) × (f.channels ≤ 2)
    → FramesOf f.channels X → Arrives f k X
first_arrives f k ks X suit two a = record { suit = suited_first f (stage_as_opened k) (map stage_as_opened ks) suit; channels = two; frames = a }

-- each stage makes frames of frames: of the stream that goes on, and of one that ended
module _ (makes : StageKind → List Frame → List Frame) (makes-frames : (f : PcmFormat) (k : StageKind) (X : List Frame) → Arrives f k X → FramesOf (format_after f k).channels (makes k X)) where
  -- what has reached the stage that i stages stand before
  frames_through : (f : PcmFormat) (ks : List StageKind) (X : List Frame) → suited f (map stage_as_opened ks) ≡ true → (0 < f.channels) × (f.channels ≤ 2) → FramesOf f.channels X
      → (i : ℕ) → FramesOf (format_leaving f (take i (map stage_as_opened ks))).channels (through makes (take i ks) X)
  unfolding format_leaving through
  frames_through f [] X suit two a zero = a
  frames_through f [] X suit two a (suc i) = a
  frames_through f (k ∷ ks) X suit two a zero = a
  frames_through f (k ∷ ks) X suit two a (suc i) =
      frames_through (format_after f k) ks (makes k X) (suited_rest f (stage_as_opened k) (map stage_as_opened ks) suit) (channels_after f k two) (makes-frames f k X (first_arrives f k ks X suit two a)) i

  -- after i stages comes the resampler r
  module _ (Known : LinearResampler → List Frame → List Frame → Type 0)
      (known : (f : PcmFormat) (r : LinearResampler) (X : List Frame) → stage_suits f (kind.Resample r) memory_as_opened ≡ true → RatesReduced (kind.Resample r) → (r.in_rate ≡ r.out_rate → ⊥)
      → FramesOf f.channels X → Known r X (makes (kind.Resample r) X)) where
    known_through : (f : PcmFormat) (ks : List StageKind) (X : List Frame) → suited f (map stage_as_opened ks) ≡ true → (0 < f.channels) × (f.channels ≤ 2) → All RatesReduced ks → FramesOf f.channels X
        → (i : ℕ) (r : LinearResampler) (later : List StageKind) → drop i ks ≡ kind.Resample r ∷ later → (r.in_rate ≡ r.out_rate → ⊥)
        → Known r (through makes (take i ks) X) (through makes (take (suc i) ks) X)
    unfolding through
    known_through f [] X suit two rates a zero r later e unequal = absurd (no_stage_lem (kind.Resample r) later e)
    known_through f [] X suit two rates a (suc i) r later e unequal = absurd (no_stage_lem (kind.Resample r) later e)
    known_through f (k ∷ ks) X suit two rates a zero r later e unequal =
        let q : k ≡ kind.Resample r = cc in
        subst (λ (h : StageKind). Known r X (makes h X)) (sym q) (known f r X (rw q at (first_arrives f k ks X suit two a).suit) (rw q at rates.0) unequal a)
    known_through f (k ∷ ks) X suit two rates a (suc i) r later e unequal =
        known_through (format_after f k) ks (makes k X) (suited_rest f (stage_as_opened k) (map stage_as_opened ks) suit) (channels_after f k two) rates.1 (makes-frames f k X (first_arrives f k ks X suit two a)) i r later e unequal

-- ---- of a stream that goes on
module _ (f : PcmFormat) (ks : List StageKind) (X : List Frame) (suit : suited f (map stage_as_opened ks) ≡ true) (two : (0 < f.channels) × (f.channels ≤ 2)) (a : FramesOf f.channels X) where
  pub received_frames : (i : ℕ) → FramesOf (format_leaving f (take i (map stage_as_opened ks))).channels (received_by i ks X)
  received_frames = frames_through plain_stage (λ f k X w. plain_frames f k X w.suit w.frames) f ks X suit two a

  pub resampler_in_chain : All RatesReduced ks → (i : ℕ) (r : LinearResampler) (later : List StageKind) → drop i ks ≡ kind.Resample r ∷ later → (r.in_rate ≡ r.out_rate → ⊥)
      → Resampled r (received_by i ks X) (delivered_by i ks X)
  resampler_in_chain rates = known_through plain_stage (λ f k X w. plain_frames f k X w.suit w.frames) Resampled resampler_is f ks X suit two rates a

  -- ---- of a stream that ended
  pub received_at_end_frames : (i : ℕ) → FramesOf (format_leaving f (take i (map stage_as_opened ks))).channels (received_at_end i ks X)
  received_at_end_frames = frames_through plain_ended (λ f k X w. ended_frames f k w.suit w.channels.1 X w.frames) f ks X suit two a

  pub resampler_at_end : All RatesReduced ks → (i : ℕ) (r : LinearResampler) (later : List StageKind) → drop i ks ≡ kind.Resample r ∷ later → (r.in_rate ≡ r.out_rate → ⊥)
      → ResampledToEnd r (received_at_end i ks X) (delivered_at_end i ks X)
  resampler_at_end rates = known_through plain_ended (λ f k X w. ended_frames f k w.suit w.channels.1 X w.frames) ResampledToEnd ended_resampler_is f ks X suit two rates a
