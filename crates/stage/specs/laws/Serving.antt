-- A stage's turn, kind by kind: what its block function asks, and that its promise serves the turn. Assumes nothing.
use Rattle.std.specs.Prelude.{◌≡◌, refl, true, List, map, ℕ, ◌*◌, ◌/◌, ◌%◌, ◌≤◌, ℤ}
use Rattle.std.proofs.Common.{sym, ap₂, ◌∙◌, subst, div-add-mod', arith}
use Rattle.std.proofs.Math.Path.{ap}
use borrow.Author.Tests.{leb-true, eqb-true}
use Rattle.std.proofs.Math.ListN.{length}
use Rattle.pcm.specs.declared.PcmFormat.{PcmFormat}
use Rattle.filters.specs.declared.Taps.{Taps}
use Rattle.filters.specs.declared.FilterMemory.{FilterMemory}
use Rattle.filters.specs.declared.Filtered.{Filtered}
use Rattle.pcm.specs.Samples.{decode}
use Rattle.pcm.specs.Frames.{Frame, FramesOf, frames_of, bytes_of, written}
use Rattle.pcm.specs.laws.Frames.{length_frames, length_bytes}
use Rattle.filters.specs.Filters.{FilterBlock, FilteredBlock, filtered, taps_of, memory_next}
use Rattle.filters.specs.laws.Filters.{length_filtered_bytes}
use Rattle.gain.specs.declared.Gain.{Gain}
use Rattle.gain.specs.Gain.{GainBlock, scaled_bytes}
use Rattle.gain.specs.Clipping.{clipped_in}
use Rattle.gain.specs.laws.Clipping.{clipped_frames}
use Rattle.gain.specs.laws.Gain.{scaled_frames, length_scaled}
use Rattle.channels.specs.Channels.{doubled, mixdown, stereo_bytes, mono_bytes}
use Rattle.channels.specs.laws.Channels.{length_stereo, length_mono}
use Rattle.dc_block.specs.declared.DcBlock.{DcBlock}
use Rattle.dc_block.specs.DcBlock.{dc_tick}
use Rattle.biquad.specs.declared.Biquad.{Biquad}
use Rattle.biquad.specs.Recurrence.{biquad_tick}
use Rattle.rates.specs.declared.LinearResampler.{LinearResampler}
use Rattle.rates.specs.declared.ResamplerState.{ResamplerState}
use Rattle.resample.specs.declared.Resampled.{Resampled}
use Rattle.resample.specs.Resample.{resampled, state_after}
use Rattle.resample.specs.laws.Delivered.{resampled_count_lem}
use Rattle.resample.proofs.laws.Neighbours.{resampled_frames}
use Rattle.resample.specs.Stage.{Ready, Processed}
use Rattle.stage.specs.declared.StageKind.{StageKind}
use Rattle.stage.specs.declared.StageKind.TheVariants as kind
use Rattle.stage.specs.declared.SoundMemory.{SoundMemory}
use Rattle.stage.specs.declared.Stage.{Stage}
use Rattle.stage.specs.Stages.{out_of, keeps_of, clipped_of, stage_out, stage_next, stage_clipped, format_after}
use Rattle.stage.specs.Rooms.{stage_suits, frames_out, Resamples, Held, Served, Serves}
use Rattle.stage.specs.laws.Rooms.{resamples, held_frames}

module _ (st : Stage) (xs : List Frame) (k : StageKind) (e : st.kind ≡ k) where
  out_is : stage_out st xs ≡ out_of k st.memory xs
  unfolding stage_out
  out_is = ap (λ (k : StageKind). out_of k st.memory xs) e

  next_is : stage_next st xs ≡ record { kind = k; memory = keeps_of k st.memory xs }
  unfolding stage_next
  next_is = ap (λ (k : StageKind). record { kind = k; memory = keeps_of k st.memory xs }) e

  pub clipped_is : stage_clipped st xs ≡ clipped_of k st.memory xs
  unfolding stage_clipped
  clipped_is = ap (λ (k : StageKind). clipped_of k st.memory xs) e

  -- a stage that keeps nothing is as it was
  as_it_was : keeps_of k st.memory xs ≡ st.memory → st ≡ stage_next st xs
  as_it_was h = sym (next_is ∙ ap₂ (λ (k : StageKind) (m : SoundMemory). record { kind = k; memory = m }) (sym e) h)

module _ (f : PcmFormat) (st : Stage) (src dst : List ℕ) (w : Served f st src dst) (held : Held st.kind st.memory) where
  abbrev xs : List Frame
  xs = frames_of f.channels src

  whole_is : length src ≡ length src / (f.channels * 2) * (f.channels * 2)
  whole_is = omega (arith, div-add-mod' (length src) (f.channels * 2), w.whole)

  even : length src % 2 ≡ 0
  even = omega (arith, whole_is)

  suit_of : (k : StageKind) → st.kind ≡ k → stage_suits f k st.memory ≡ true
  suit_of k e = ap (λ (k : StageKind). stage_suits f k st.memory) (sym e) ∙ w.suit

  room_of_lem : (k : StageKind) → st.kind ≡ k → frames_out k st.memory (length src / (f.channels * 2)) * ((format_after f k).channels * 2) ≤ length dst
  room_of_lem k e = subst (λ (k : StageKind). frames_out k st.memory (length src / (f.channels * 2)) * ((format_after f k).channels * 2) ≤ length dst) e w.room

  frames_are : FramesOf f.channels xs → FramesOf (format_after f st.kind).channels (stage_out st xs)
  frames_are a = held_frames f st xs w.suit held a

  -- what stands at the front is `bytes`, which are those of the definition
  serves : (next : Stage) (bytes dst' : List ℕ) (len : ℕ) → next ≡ stage_next st xs → bytes ≡ bytes_of (stage_out st xs) → len ≡ length bytes → dst' ≡ written bytes dst → Serves f st next xs len dst dst'
  serves next bytes dst' len n b l h = record {
    keeps = n;
    size = l ∙ ap length b;
    gives = h ∙ ap (λ (r : List ℕ). written r dst) b;
    frames = frames_are;
  }

  -- ---- gain
  pub gain_asks : (g : Gain) → st.kind ≡ kind.Gain g → GainBlock g.q15 src dst
  unfolding stage_suits frames_out
  gain_asks g e = record { whole = even; room = omega (arith, room_of_lem (kind.Gain g) e, whole_is); factor = leb-true _ _ (suit_of (kind.Gain g) e) }

  pub gain_serves : (g : Gain) (dst' : List ℕ) → st.kind ≡ kind.Gain g → dst' ≡ written (scaled_bytes g.q15 src) dst → Serves f st st xs (length src) dst dst'
  gain_serves g dst' e h =
      serves st (scaled_bytes g.q15 src) dst' (length src) (as_it_was st xs (kind.Gain g) e refl)
      (scaled_frames f.channels g.q15 src w.whole ∙ ap bytes_of (sym (out_is st xs (kind.Gain g) e))) (sym (length_scaled g.q15 src even)) h

  pub gain_holds : (g : Gain) (clipped : ℕ) → st.kind ≡ kind.Gain g → clipped ≡ clipped_in g.q15 (decode src) → clipped ≡ stage_clipped st xs
  gain_holds g clipped e h = h ∙ clipped_frames f.channels g.q15 src w.whole ∙ sym (clipped_is st xs (kind.Gain g) e)

  -- ---- the channel stages
  stereo_channels : st.kind ≡ kind.MonoToStereo → f.channels ≡ 1
  unfolding stage_suits
  stereo_channels e = eqb-true _ _ (suit_of kind.MonoToStereo e)

  pub stereo_asks : st.kind ≡ kind.MonoToStereo → (length src % 2 ≡ 0) × (length src * 2 ≤ length dst)
  unfolding frames_out
  stereo_asks e =
      let c : f.channels ≡ 1 = stereo_channels e in
      let n : length src ≡ length src / 2 * 2 = rw c at whole_is in
      let r : length src / 2 * 4 ≤ length dst = rw c at (room_of_lem kind.MonoToStereo e) in
      (even, omega arith)

  pub stereo_serves : (dst' : List ℕ) → st.kind ≡ kind.MonoToStereo → dst' ≡ written (stereo_bytes src) dst → Serves f st st xs (length src * 2) dst dst'
  unfolding stereo_bytes
  stereo_serves dst' e h =
      serves st (stereo_bytes src) dst' (length src * 2) (as_it_was st xs kind.MonoToStereo e refl)
      (ap (λ (n : ℕ). bytes_of (map doubled (frames_of n src))) (sym (stereo_channels e)) ∙ ap bytes_of (sym (out_is st xs kind.MonoToStereo e))) (sym (length_stereo src even)) h

  mono_channels : st.kind ≡ kind.StereoToMono → f.channels ≡ 2
  unfolding stage_suits
  mono_channels e = eqb-true _ _ (suit_of kind.StereoToMono e)

  four : st.kind ≡ kind.StereoToMono → length src % 4 ≡ 0
  four e = rw (mono_channels e) at w.whole

  pub mono_asks : st.kind ≡ kind.StereoToMono → (length src % 4 ≡ 0) × (length src / 2 ≤ length dst)
  unfolding frames_out
  mono_asks e =
      let c : f.channels ≡ 2 = mono_channels e in
      let m : length src % 4 ≡ 0 = four e in
      let r : length src / 4 * 2 ≤ length dst = rw c at (room_of_lem kind.StereoToMono e) in
      (m, omega arith)

  pub mono_serves : (dst' : List ℕ) → st.kind ≡ kind.StereoToMono → dst' ≡ written (mono_bytes src) dst → Serves f st st xs (length src / 2) dst dst'
  unfolding mono_bytes
  mono_serves dst' e h =
      serves st (mono_bytes src) dst' (length src / 2) (as_it_was st xs kind.StereoToMono e refl)
      (ap (λ (n : ℕ). bytes_of (map mixdown (frames_of n src))) (sym (mono_channels e)) ∙ ap bytes_of (sym (out_is st xs kind.StereoToMono e))) (sym (length_mono src (four e))) h

  -- ---- the filters
  filter_asks : length src ≤ length dst → FilterBlock f.channels src dst
  filter_asks h = record { channels = w.channels; whole = w.whole; room = h }

  pub dc_asks : (b : DcBlock) → st.kind ≡ kind.DcBlock b → FilterBlock f.channels src dst
  unfolding frames_out
  dc_asks b e = filter_asks (omega (arith, room_of_lem (kind.DcBlock b) e, whole_is))

  pub biquad_asks : (b : Biquad) → st.kind ≡ kind.Biquad b → FilterBlock f.channels src dst
  unfolding frames_out
  biquad_asks b e = filter_asks (omega (arith, room_of_lem (kind.Biquad b) e, whole_is))

  filter_serves : (tick : Taps → ℤ → Taps) (k : StageKind) (n : Filtered) (dst' : List ℕ) → st.kind ≡ k
      → out_of k st.memory xs ≡ filtered tick (taps_of st.memory.filter) xs
      → keeps_of k st.memory xs ≡ record { filter = memory_next tick st.memory.filter xs; resampler = st.memory.resampler }
      → FilteredBlock tick f.channels st.memory.filter src dst dst' n
      → Serves f st (record { kind = k; memory = record { filter = n.memory; resampler = st.memory.resampler } }) xs (length src) dst dst'
  filter_serves tick k n dst' e o m b =
      serves _ (bytes_of (filtered tick (taps_of st.memory.filter) xs)) dst' (length src)
      (ap (λ (n : FilterMemory). record { kind = k; memory = record { filter = n; resampler = st.memory.resampler } }) b.memory
      ∙ sym (next_is st xs k e ∙ ap (λ (m : SoundMemory). record { kind = k; memory = m }) m))
      (ap bytes_of (sym (out_is st xs k e ∙ o))) (sym (length_filtered_bytes tick f.channels (taps_of st.memory.filter) src w.whole)) b.bytes

  pub dc_serves : (b : DcBlock) (n : Filtered) (dst' : List ℕ) → st.kind ≡ kind.DcBlock b → FilteredBlock (dc_tick b.r) f.channels st.memory.filter src dst dst' n
      → Serves f st (record { kind = kind.DcBlock b; memory = record { filter = n.memory; resampler = st.memory.resampler } }) xs (length src) dst dst'
  dc_serves b n dst' e h = filter_serves (dc_tick b.r) (kind.DcBlock b) n dst' e refl refl h

  pub biquad_serves : (b : Biquad) (n : Filtered) (dst' : List ℕ) → st.kind ≡ kind.Biquad b → FilteredBlock (biquad_tick b.coefficients) f.channels st.memory.filter src dst dst' n
      → Serves f st (record { kind = kind.Biquad b; memory = record { filter = n.memory; resampler = st.memory.resampler } }) xs (length src) dst dst'
  biquad_serves b n dst' e h = filter_serves (biquad_tick b.coefficients) (kind.Biquad b) n dst' e refl refl h

  -- ---- the resampler
  module _ (r : LinearResampler) (e : st.kind ≡ kind.Resample r) where
    suit_here : Resamples f r st.memory
    suit_here = resamples f r st.memory (suit_of (kind.Resample r) e)

    abbrev made : List Frame
    made = resampled r st.memory.resampler xs

    made_room : length made * (f.channels * 2) ≤ length dst
    unfolding frames_out
    made_room =
        let n : length xs ≡ length src / (f.channels * 2) = length_frames f.channels src in
        rw (resampled_count_lem r st.memory.resampler xs, n) (room_of_lem (kind.Resample r) e)

    pub resample_asks : Ready f.channels r.in_r r.out_r made src dst
    resample_asks = record {
      channels = w.channels;
      in_r = suit_here.rates.in_r;
      out_r = suit_here.rates.out_r;
      some = w.some;
      whole = w.whole;
      room = made_room;
    }

    -- the bytes of what is made, whose frames have as many samples as those that came
    made_bytes : FramesOf f.channels xs → length (bytes_of made) ≡ length made * (f.channels * 2)
    made_bytes a = length_bytes f.channels made (resampled_frames f.channels r st.memory.resampler xs (subst (λ (k : StageKind). Held k st.memory) e held) a)

    pub resample_serves : (t : Resampled) (dst' : List ℕ) → FramesOf f.channels xs → Processed made (state_after r st.memory.resampler xs) dst dst' t
        → Serves f st (record { kind = kind.Resample r; memory = record { filter = st.memory.filter; resampler = t.state } }) xs (t.frames * (f.channels * 2)) dst dst'
    resample_serves t dst' a p =
        serves _ (bytes_of made) dst' (t.frames * (f.channels * 2))
        (ap (λ (s : ResamplerState). record { kind = kind.Resample r; memory = record { filter = st.memory.filter; resampler = s } }) p.state_is ∙ sym (next_is st xs (kind.Resample r) e))
        (ap bytes_of (sym (out_is st xs (kind.Resample r) e)))
        (ap (λ (n : ℕ). n * (f.channels * 2)) p.frames_are ∙ sym (made_bytes a)) p.bytes_are

    pub resample_fits : (t : Resampled) (dst' : List ℕ) → Processed made (state_after r st.memory.resampler xs) dst dst' t → t.frames * (f.channels * 2) ≤ length dst
    resample_fits t dst' p = subst (λ (n : ℕ). n * (f.channels * 2) ≤ length dst) (sym p.frames_are) made_room
