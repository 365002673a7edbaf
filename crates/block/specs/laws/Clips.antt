-- What the stages of a call have held back so far, and that the sum does not wrap. Assumes nothing.
use Rattle.std.specs.Prelude.{◌≡◌, ℕ, ◌+◌, ◌*◌, ◌≤◌, ◌<◌, true, List, length}
use Rattle.std.proofs.Math.Path.{ap}
use Rattle.std.proofs.Common.{subst, sym, mul-le-mul, arith}
use Rattle.pcm.specs.declared.PcmFormat.{PcmFormat}
use Rattle.pcm.specs.Frames.{Frame, FramesOf, bytes_of, flat}
use Rattle.pcm.specs.laws.Samples.{length_encode}
use Rattle.pcm.specs.laws.Frames.{length_bytes}
use Rattle.stage.specs.declared.Stage.{Stage}
use Rattle.stage.specs.Stages.{stage_clipped, format_after}
use Rattle.stage.specs.Rooms.{stage_suits, frames_wanted}
use Rattle.stage.specs.laws.Stages.{stage_clipped_le}
use Rattle.block.specs.laws.Bounds.{few_frames, next_bound}

-- before stage i + 1 of `count`, at which n frames of the format f arrive: of the samples that the whole call holds back, so many were held back,
-- and `left` will be by the stages that are left; `first` is the rate of the chain's own format
pub record Clips (count total first left : ℕ) (f : PcmFormat) (n i clipped : ℕ) : Type 0 where
  pub is : total ≡ clipped + left
  pub small : clipped ≤ i * 4800000000000
  pub first_rate : (0 < first) × (first ≤ 384000)
  pub rate : f.rate ≤ 384000
  pub frames : i < count → n * first ≤ (8192 + 768000 * i) * f.rate

-- before the first stage
pub clips_first : (count total first : ℕ) (f : PcmFormat) (n : ℕ) → (0 < first) × (first ≤ 384000) → f.rate ≡ first → n ≤ 8192 → Clips count total first total f n 0 0
clips_first count total first f n r e h = record {
  is = omega arith;
  small = omega arith;
  first_rate = r;
  rate = omega (arith, r.1);
  frames = λ more. omega (arith, mul-le-mul h (let u : first ≤ f.rate = omega arith in u));
}

module _ (count total first left : ℕ) (f : PcmFormat) (n i clipped : ℕ) (c : Clips count total first left f n i clipped) where
  -- no later stage is run
  pub clips_over : {later m : ℕ} → i ≤ count → left ≡ later → Clips count total first later f m count clipped
  clips_over h e = record { is = omega (arith, c.is); small = omega (arith, c.small); first_rate = c.first_rate; rate = c.rate; frames = λ more. absurd (let z : ⊥ = omega arith in z) }

  module _ (more : i < count) (few : count ≤ 8) (s : Stage) (xs : List Frame) (size : length xs ≡ n) (good : FramesOf f.channels xs) (two : f.channels ≤ 2) where
    -- a frame has a sample for each channel
    samples_of : length (flat xs) ≡ n * f.channels
    unfolding bytes_of
    samples_of = omega (arith, length_encode (flat xs), length_bytes f.channels xs good, ap (λ (k : ℕ). k * (f.channels * 2)) size)

    held_few : stage_clipped s xs ≤ 4800000000000
    held_few =
        let k : n ≤ 2400000000000 = few_frames first c.first_rate.0 c.first_rate.1 {i = i} (omega arith) c.rate (c.frames more) in
        omega (arith, stage_clipped_le s xs, samples_of, mul-le-mul k two)

    -- the sum fits
    pub clips_fit : {held : ℕ} → held ≡ stage_clipped s xs → clipped + held ≤ 38400000000000
    clips_fit e = omega (arith, held_few, c.small)

    -- the stage has had its turn
    pub clips_next : {held later m : ℕ} {g : PcmFormat} → held ≡ stage_clipped s xs → left ≡ stage_clipped s xs + later
        → stage_suits f s.kind s.memory ≡ true → m ≤ frames_wanted s.kind n → g ≡ format_after f s.kind
        → Clips count total first later g m (i + 1) (clipped + held)
    clips_next {held} {later} {m} {g} e q suit k w =
        let b = next_bound first c.first_rate.0 c.first_rate.1 f s.kind s.memory i n m suit (c.frames more) c.rate k in
        record {
          is = omega (arith, c.is, e, q);
          small = omega (arith, held_few, c.small, e);
          first_rate = c.first_rate;
          rate = subst (λ (x : PcmFormat). x.rate ≤ 384000) (sym w) b.1;
          frames = λ later. subst (λ (x : PcmFormat). m * first ≤ (8192 + 768000 * (i + 1)) * x.rate) (sym w) b.0;
        }
