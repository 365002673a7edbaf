-- Equal rates copy; else the block's own frames and state are the stage's. Assumes nothing.
use Rattle.std.proofs.Common.{◌≡◌, ℕ, ◌*◌, ◌/◌, ◌≤◌, ◌<◌, length, sym, ap, ◌∙◌, div-add-mod', arith, eq-eqb, ne_eqb}
use Rattle.pcm.specs.Samples.{Bytes}
use Rattle.pcm.specs.laws.Samples.{all_by_index}
use Rattle.pcm.specs.Frames.{frames_of}
use Rattle.pcm.specs.laws.Frames.{length_frames, bytes_frames}
use Rattle.resample.proofs.Theorems.{resampled_equal, state_equal}
use Rattle.resample.proofs.Stage.{unequal_ready, unequal_done}
use Rattle.resample.proofs.process.Goals as goal

pub copy_front-requires : goal.copy_front-requires
copy_front-requires c =
    let a = c.args in
    let r : length a.input.now / (a.channels * 2) * (a.channels * 2) ≤ length a.out.now =
    rw (resampled_equal a.resampler a.s (frames_of a.channels a.input.now) (eq-eqb _ _ c.if-resampler.true), length_frames a.channels a.input.now) at c.requires.room in
    omega (arith, r, div-add-mod' (length a.input.now) (a.channels * 2), c.requires.whole)

pub returns-then-resampler : goal.returns-then-resampler
returns-then-resampler c =
    let a = c.args in
    let l = a.input.now in
    let e = eq-eqb _ _ c.if-resampler.true in
    let b : Bytes l = all_by_index (λ (n : ℕ). n < 256) 0 l (λ i h. (c.type_inv.input i).fits) in
    record {
      frames_are = sym (ap length (resampled_equal a.resampler a.s (frames_of a.channels l) e) ∙ length_frames a.channels l);
      bytes_are = rw (resampled_equal a.resampler a.s (frames_of a.channels l) e, bytes_frames a.channels l c.requires.whole b) c.copy_front.ensures;
      state_is = sym (state_equal a.resampler a.s (frames_of a.channels l) e);
    }

pub resample-requires : goal.resample-requires
resample-requires c = let a = c.args in unequal_ready a.resampler a.s a.input.now a.out.now (ne_eqb _ _ c.if-resampler.false) c.in-1.is c.requires

pub returns-in-1 : goal.returns-in-1
returns-in-1 c = let a = c.args in unequal_done a.resampler a.s a.input.now a.out.now (ne_eqb _ _ c.if-resampler.false) c.in-1.is c.resample.ensures

pub resample-requires-in_default : goal.resample-requires-in_default
resample-requires-in_default c =
    let a = c.args in
    let two : a.channels ≡ 2 = omega (arith, c.requires.channels.0, c.requires.channels.1) in
    unequal_ready a.resampler a.s a.input.now a.out.now (ne_eqb _ _ c.if-resampler.false) two c.requires

pub returns-in_default : goal.returns-in_default
returns-in_default c =
    let a = c.args in
    let two : a.channels ≡ 2 = omega (arith, c.requires.channels.0, c.requires.channels.1) in
    unequal_done a.resampler a.s a.input.now a.out.now (ne_eqb _ _ c.if-resampler.false) two c.resample-in_default.ensures
