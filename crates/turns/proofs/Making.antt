-- A stage's turn by its kind: what the kind's own function asks, and that what it does is what the stage makes. Assumes nothing.
use Rattle.std.specs.Prelude.{◌≡◌, List, ℕ, ◌*◌, ◌/◌, ◌%◌, ◌≤◌, length}
use Rattle.std.proofs.Common.{sym, subst, ◌∙◌}
use Rattle.pcm.specs.declared.PcmFormat.{PcmFormat}
use Rattle.pcm.specs.Samples.{Samples, decode}
use Rattle.pcm.specs.Frames.{Frame, frames_of, written}
use Rattle.filters.specs.declared.Filtered.{Filtered}
use Rattle.filters.specs.Filters.{FilterBlock, FilteredBlock}
use Rattle.gain.specs.declared.Gain.{Gain}
use Rattle.gain.specs.Gain.{GainBlock, scaled_bytes}
use Rattle.gain.specs.Clipping.{clipped_in}
use Rattle.channels.specs.Channels.{stereo_bytes, mono_bytes}
use Rattle.dc_block.specs.declared.DcBlock.{DcBlock}
use Rattle.dc_block.specs.DcBlock.{dc_tick}
use Rattle.biquad.specs.declared.Biquad.{Biquad}
use Rattle.biquad.specs.Recurrence.{biquad_tick}
use Rattle.rates.specs.declared.LinearResampler.{LinearResampler}
use Rattle.rates.specs.declared.ResamplerState.{ResamplerState}
use Rattle.resample.specs.declared.Resampled.{Resampled}
use Rattle.resample.specs.Resample.{resampled, state_after}
use Rattle.resample.specs.Stage.{Ready, Processed}
use Rattle.stage.specs.declared.Stage.{Stage}
use Rattle.stage.specs.declared.StageKind.{StageKind}
use Rattle.stage.specs.declared.StageKind.TheVariants as kind
use Rattle.stage.specs.declared.SoundMemory.{SoundMemory}
use Rattle.stage.specs.Rooms.{Held, Serves}
use Rattle.stage.specs.laws.Serving.{clipped_is, gain_asks, gain_serves, gain_holds, stereo_asks, stereo_serves, mono_asks, mono_serves, dc_asks, dc_serves, biquad_asks, biquad_serves, resample_asks, resample_serves, resample_fits}
use Rattle.turns.specs.Turns.{Takes, Makes}

module _ (f : PcmFormat) (s : Stage) {source target : List ℕ} (w : Takes f s source target) where
  abbrev xs : List Frame
  xs = frames_of f.channels source

  held_as : (k : StageKind) → s.kind ≡ k → Held k s.memory → Held s.kind s.memory
  held_as k e t = subst (λ (k : StageKind). Held k s.memory) (sym e) t

  -- a stage named by its kind
  of_kind : (k : StageKind) (m : SoundMemory) (len : ℕ) (after : List ℕ) → s.kind ≡ k → Serves f s (record { kind = k; memory = m }) xs len target after
      → Serves f s (record { kind = s.kind; memory = m }) xs len target after
  of_kind k m len after e v = subst (λ (k : StageKind). Serves f s (record { kind = k; memory = m }) xs len target after) (sym e) v

  -- ---- gain
  pub gain_takes : (g : Gain) → s.kind ≡ kind.Gain g → GainBlock g.q15 source target
  gain_takes g e = gain_asks f s source target w.0 (held_as _ e tt) g e

  pub gain_makes : (g : Gain) (clipped : ℕ) (after : List ℕ) → s.kind ≡ kind.Gain g → after ≡ written (scaled_bytes g.q15 source) target → clipped ≡ clipped_in g.q15 (decode source)
      → Makes f s s.memory (length source) clipped source target after
  gain_makes g clipped after e h c = record {
    serves = gain_serves f s source target w.0 (held_as _ e tt) g after e h;
    holds = gain_holds f s source target w.0 (held_as _ e tt) g clipped e c;
  }

  -- ---- the channel stages
  pub stereo_takes : s.kind ≡ kind.MonoToStereo → (length source % 2 ≡ 0) × (length source * 2 ≤ length target)
  stereo_takes e = stereo_asks f s source target w.0 (held_as _ e tt) e

  pub stereo_makes : (after : List ℕ) → s.kind ≡ kind.MonoToStereo → after ≡ written (stereo_bytes source) target → Makes f s s.memory (length source * 2) 0 source target after
  stereo_makes after e h = record { serves = stereo_serves f s source target w.0 (held_as _ e tt) after e h; holds = sym (clipped_is s xs kind.MonoToStereo e) }

  pub mono_takes : s.kind ≡ kind.StereoToMono → (length source % 4 ≡ 0) × (length source / 2 ≤ length target)
  mono_takes e = mono_asks f s source target w.0 (held_as _ e tt) e

  pub mono_makes : (after : List ℕ) → s.kind ≡ kind.StereoToMono → after ≡ written (mono_bytes source) target → Makes f s s.memory (length source / 2) 0 source target after
  mono_makes after e h = record { serves = mono_serves f s source target w.0 (held_as _ e tt) after e h; holds = sym (clipped_is s xs kind.StereoToMono e) }

  -- ---- the filters
  pub dc_takes : (b : DcBlock) → s.kind ≡ kind.DcBlock b → FilterBlock f.channels source target
  dc_takes b e = dc_asks f s source target w.0 (held_as _ e tt) b e

  pub dc_makes : (b : DcBlock) (t : Filtered) (after : List ℕ) → s.kind ≡ kind.DcBlock b → FilteredBlock (dc_tick b.r) f.channels s.memory.filter source target after t
      → Makes f s (record { filter = t.memory; resampler = s.memory.resampler }) (length source) t.clipped source target after
  dc_makes b t after e h = record {
    serves = of_kind (kind.DcBlock b) _ (length source) after e (dc_serves f s source target w.0 (held_as _ e tt) b t after e h);
    holds = h.clipped ∙ sym (clipped_is s xs (kind.DcBlock b) e);
  }

  pub biquad_takes : (b : Biquad) → s.kind ≡ kind.Biquad b → FilterBlock f.channels source target
  biquad_takes b e = biquad_asks f s source target w.0 (held_as _ e tt) b e

  pub biquad_makes : (b : Biquad) (t : Filtered) (after : List ℕ) → s.kind ≡ kind.Biquad b → FilteredBlock (biquad_tick b.coefficients) f.channels s.memory.filter source target after t
      → Makes f s (record { filter = t.memory; resampler = s.memory.resampler }) (length source) t.clipped source target after
  biquad_makes b t after e h = record {
    serves = of_kind (kind.Biquad b) _ (length source) after e (biquad_serves f s source target w.0 (held_as _ e tt) b t after e h);
    holds = h.clipped ∙ sym (clipped_is s xs (kind.Biquad b) e);
  }

  -- ---- the resampler, from its state as it is handed on
  module _ (r : LinearResampler) (state : ResamplerState) (e : s.kind ≡ kind.Resample r) (same : state ≡ s.memory.resampler) (samples : Samples s.memory.resampler.last) where
    pub resample_takes : Ready f.channels r.in_r r.out_r (resampled r state xs) source target
    resample_takes =
        subst (λ (t : ResamplerState). Ready f.channels r.in_r r.out_r (resampled r t xs) source target) (sym same)
        (resample_asks f s source target w.0 (held_as _ e samples) r e)

    module _ (t : Resampled) (after : List ℕ) (h : Processed (resampled r state xs) (state_after r state xs) target after t) where
      from_memory : Processed (resampled r s.memory.resampler xs) (state_after r s.memory.resampler xs) target after t
      from_memory = subst (λ (u : ResamplerState). Processed (resampled r u xs) (state_after r u xs) target after t) same h

      pub resample_makes : Makes f s (record { filter = s.memory.filter; resampler = t.state }) (t.frames * (f.channels * 2)) 0 source target after
      resample_makes = record {
        serves = of_kind (kind.Resample r) _ _ after e (resample_serves f s source target w.0 (held_as _ e samples) r e t after w.1 from_memory);
        holds = sym (clipped_is s xs (kind.Resample r) e);
      }

      pub resample_long : t.frames * (f.channels * 2) ≤ length target
      resample_long = resample_fits f s source target w.0 (held_as _ e samples) r e t after from_memory
