-- Laws: what a stage moves to, or is cleared to, fits its words. Assumes nothing.
use Rattle.std.specs.Prelude.{Bool, true, false, cond, List, [], ◌∷◌, ℕ, zero, suc, ◌*◌, ◌<◌, eqb}
use Rattle.std.proofs.Common.{arith}
use Rattle.pcm.specs.Frames.{Frame}
use Rattle.rates.specs.declared.LinearResampler.{LinearResampler}
use Rattle.rates.specs.declared.ResamplerState.{ResamplerState}
use Rattle.rates.specs.Counting.{past}
use Rattle.rates.specs.laws.Counting.{past_below}
use Rattle.resample.specs.Resample.{gaps, among, first_at, carried_state, state_after}
use Rattle.stage.specs.declared.Stage.{Stage}
use Rattle.stage.specs.declared.StageKind.{StageKind}
use Rattle.stage.specs.declared.StageKind.TheVariants as kind
use Rattle.stage.specs.Stages.{keeps_of, stage_next, stage_clear}
use Rattle.stage_words.specs.Storable.{SmallKind, Small}

-- ---- the phase stays within a word
phase_next : (i o : ℕ) (s : ResamplerState) (xs : List Frame) → i < 4294967296 → s.phase < 4294967296 → (carried_state i o s xs).phase < 4294967296
unfolding carried_state first_at
phase_next i o s [] h k = k
phase_next i o s (x ∷ xs) h k = go i s.primed h
  where
    go : (i : ℕ) (b : Bool) → i < 4294967296 → past i (cond b s.phase 0) (gaps (among s (x ∷ xs)) * o) < 4294967296
    go zero true h = omega arith
    go zero false h = omega arith
    go (suc i) true h = past_below (suc i) (omega arith) 4294967296 s.phase (gaps (among s (x ∷ xs)) * o) (omega arith) k
    go (suc i) false h = past_below (suc i) (omega arith) 4294967296 0 (gaps (among s (x ∷ xs)) * o) (omega arith) (omega arith)

phase_after : (r : LinearResampler) (s : ResamplerState) (xs : List Frame) → r.in_r < 4294967296 → s.phase < 4294967296 → (state_after r s xs).phase < 4294967296
unfolding state_after
phase_after r s xs h k = go (eqb r.in_rate r.out_rate)
  where
    go : (b : Bool) → (cond b s (carried_state r.in_r r.out_r s xs)).phase < 4294967296
    go true = k
    go false = phase_next r.in_r r.out_r s xs h k

pub small_next : (s : Stage) (xs : List Frame) → Small s → Small (stage_next s xs)
unfolding stage_next
small_next s xs h = record { kind = h.kind; phase = go s.kind h.kind }
  where
    go : (k : StageKind) → SmallKind k → (keeps_of k s.memory xs).resampler.phase < 4294967296
    go (kind.Gain g) m = h.phase
    go kind.MonoToStereo m = h.phase
    go kind.StereoToMono m = h.phase
    go (kind.Resample r) m = phase_after r s.memory.resampler xs m.0 h.phase
    go (kind.DcBlock d) m = h.phase
    go (kind.Biquad b) m = h.phase

pub small_clear : (s : Stage) → Small s → Small (stage_clear s)
small_clear s h = record { kind = h.kind; phase = omega arith }
