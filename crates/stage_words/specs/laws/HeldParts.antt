-- Laws: a stage of which only what its kind remembers was written stands there with that memory. Assumes nothing.
use Rattle.std.specs.Prelude.{◌≡◌, length}
use Rattle.std.proofs.Math.Path.{sym, ap₂}
use Rattle.std.proofs.Common.{ap, ◌∙◌, arith}
use mathlib.Core.List.{List}
use Prim.Native.Nat.{ℕ, ◌+◌, ◌≤◌, ◌<◌}
use Rattle.std.proofs.Math.ListN.{drop}
use Rattle.std.proofs.lemmas.List.Edits.{sets}
use Rattle.filters.specs.declared.FilterMemory.{FilterMemory}
use Rattle.pcm.specs.Frames.{Frame}
use Rattle.rates.specs.declared.ResamplerState.{ResamplerState}
use Rattle.stage.specs.declared.StageKind.{StageKind}
use Rattle.stage.specs.declared.StageKind.TheVariants as kind
use Rattle.stage.specs.declared.SoundMemory.{SoundMemory}
use Rattle.stage.specs.declared.Stage.{Stage}
use Rattle.stage.specs.Stages.{keeps_of, stage_next}
use Rattle.stage_words.specs.Layout.{filter_words, state_words, held_at, held_words, word, filter_of, state_of, memory_of, stage_of}
use Rattle.stage_words.specs.Storable.{TwoSamples, HeldFilter, HeldBy}
use Rattle.stage_words.specs.laws.ReadBack.{filter_back, state_back}
use Rattle.stage_words.specs.laws.Reading.{kind_same, filter_same, state_same}
use Rattle.words.specs.laws.Runs.{in_run, below_run, above_run}

-- ---- where the words of a memory stand: past the settings, and within the stage's eighteen
pub held_past : (k : StageKind) → 7 ≤ held_at k
unfolding held_at
held_past (kind.Gain g) = omega arith
held_past kind.MonoToStereo = omega arith
held_past kind.StereoToMono = omega arith
held_past (kind.Resample r) = omega arith
held_past (kind.DcBlock d) = omega arith
held_past (kind.Biquad b) = omega arith

pub held_within : (k : StageKind) (m : SoundMemory) → held_at k + length (held_words k m) ≤ 18
unfolding held_at held_words filter_words state_words
held_within (kind.Gain g) m = omega arith
held_within kind.MonoToStereo m = omega arith
held_within kind.StereoToMono m = omega arith
held_within (kind.Resample r) m = omega arith
held_within (kind.DcBlock d) m = omega arith
held_within (kind.Biquad b) m = omega arith

module _ (w : List ℕ) (k : ℕ) (fits : k + 18 ≤ length w) where
  filter_written : (m : FilterMemory) → HeldFilter m → filter_of (drop k (sets w (k + 7) (filter_words m))) ≡ m
  unfolding filter_of filter_words
  filter_written m h =
      let at : (j : ℕ) → j < 8 → word (drop k (sets w (k + 7) (filter_words m))) (7 + j) ≡ word (filter_words m) j = λ j l. in_run (filter_words m) w k 7 j 0 (omega arith) l in
      rw (
        at 0 (omega arith),
        at 1 (omega arith),
        at 2 (omega arith),
        at 3 (omega arith),
        at 4 (omega arith),
        at 5 (omega arith),
        at 6 (omega arith),
        at 7 (omega arith),
      ) (filter_back m h)

  state_written : (s : ResamplerState) → TwoSamples s.last → s.phase < 4294967296 → state_of (drop k (sets w (k + 15) (state_words s))) ≡ s
  unfolding state_of state_words
  state_written s h p =
      let at : (j : ℕ) → j < 3 → word (drop k (sets w (k + 15) (state_words s))) (15 + j) ≡ word (state_words s) j = λ j l. in_run (state_words s) w k 15 j 0 (omega arith) l in
      rw (at 0 (omega arith), at 1 (omega arith), at 2 (omega arith)) (state_back s h p)

  module _ (m : SoundMemory) (xs : List Frame) (p : m.resampler.phase < 4294967296) where
    filter_held : HeldFilter m.filter → m.resampler ≡ state_of (drop k w) → memory_of (drop k (sets w (k + 7) (filter_words m.filter))) ≡ m
    unfolding filter_words
    filter_held h e =
        ap₂ (λ (x : FilterMemory) (y : ResamplerState). record { filter = x; resampler = y })
        (filter_written m.filter h)
        (state_same (drop k (sets w (k + 7) (filter_words m.filter))) (drop k w) (λ j l n. above_run (filter_words m.filter) w k 7 j 0 (omega arith)) ∙ sym e)

    state_held : TwoSamples m.resampler.last → m.filter ≡ filter_of (drop k w) → memory_of (drop k (sets w (k + 15) (state_words m.resampler))) ≡ m
    state_held h e =
        ap₂ (λ (x : FilterMemory) (y : ResamplerState). record { filter = x; resampler = y })
        (filter_same (drop k (sets w (k + 15) (state_words m.resampler))) (drop k w) (λ j l n. below_run (state_words m.resampler) w k 15 j 0 (omega arith)) ∙ sym e)
        (state_written m.resampler h p)

    memory_held : (q : StageKind) → m ≡ keeps_of q (memory_of (drop k w)) xs → HeldBy q m → memory_of (drop k (sets w (k + held_at q) (held_words q m))) ≡ m
    unfolding held_at held_words
    memory_held (kind.Gain g) e h = sym e
    memory_held kind.MonoToStereo e h = sym e
    memory_held kind.StereoToMono e h = sym e
    memory_held (kind.Resample r) e h = state_held h (ap (λ (x : SoundMemory). x.filter) e)
    memory_held (kind.DcBlock d) e h = filter_held h (ap (λ (x : SoundMemory). x.resampler) e)
    memory_held (kind.Biquad b) e h = filter_held h (ap (λ (x : SoundMemory). x.resampler) e)

    -- the stage has moved over xs to the memory m, and what its kind remembers of m was written
    pub held_written : record { kind = (stage_of (drop k w)).kind; memory = m } ≡ stage_next (stage_of (drop k w)) xs → HeldBy (stage_of (drop k w)).kind m
        → stage_of (drop k (sets w (k + held_at (stage_of (drop k w)).kind) (held_words (stage_of (drop k w)).kind m))) ≡ record { kind = (stage_of (drop k w)).kind; memory = m }
    unfolding stage_next
    held_written e h =
        let q : StageKind = (stage_of (drop k w)).kind in
        let after : List ℕ = drop k (sets w (k + held_at (stage_of (drop k w)).kind) (held_words (stage_of (drop k w)).kind m)) in
        ap₂ (λ (x : StageKind) (y : SoundMemory). record { kind = x; memory = y })
        (kind_same after (drop k w) (λ j l. below_run (held_words q m) w k (held_at q) j 0 (omega (arith, held_past q))))
        (memory_held q (ap (λ (s : Stage). s.memory) e) h)
