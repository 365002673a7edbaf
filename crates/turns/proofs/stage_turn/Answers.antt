-- `turns::stage_turn`: each kind by what its own function promises.
use Rattle.std.proofs.Common.{arith}
use Rattle.turns.proofs.Making.{gain_takes, gain_makes, stereo_takes, stereo_makes, mono_takes, mono_makes, resample_takes, resample_makes, resample_long, dc_takes, dc_makes, biquad_takes, biquad_makes}
use Rattle.turns.proofs.stage_turn.Goals as goal

pub process-clipped-requires : goal.process-clipped-requires
process-clipped-requires c = gain_takes c.args.format c.args.s.now c.requires _ c.in-Gain.is

pub mono_to_stereo-requires : goal.mono_to_stereo-requires
mono_to_stereo-requires c = stereo_takes c.args.format c.args.s.now c.requires c.in-MonoToStereo.is

pub stereo_to_mono-requires : goal.stereo_to_mono-requires
stereo_to_mono-requires c = mono_takes c.args.format c.args.s.now c.requires c.in-StereoToMono.is

pub process-t-requires : goal.process-t-requires
process-t-requires c = resample_takes c.args.format c.args.s.now c.requires _ _ c.in-Resample.is c.held_samples-held.ensures.0 c.held_samples-held.ensures.1

pub overflow_mul-result-in-Resample-2 : goal.overflow_mul-result-in-Resample-2
overflow_mul-result-in-Resample-2 c =
    omega (arith, resample_long c.args.format c.args.s.now c.requires _ _ c.in-Resample.is c.held_samples-held.ensures.0 c.held_samples-held.ensures.1 c.process-t.result _ c.process-t.ensures)

pub process-t-requires-in-DcBlock : goal.process-t-requires-in-DcBlock
process-t-requires-in-DcBlock c = dc_takes c.args.format c.args.s.now c.requires _ c.in-DcBlock.is

pub process-t-requires-in-Biquad : goal.process-t-requires-in-Biquad
process-t-requires-in-Biquad c = biquad_takes c.args.format c.args.s.now c.requires _ c.in-Biquad.is

pub returns-in-Gain : goal.returns-in-Gain
returns-in-Gain c = rw c.held_samples-held.ensures.0 (gain_makes c.args.format c.args.s.now c.requires _ _ _ c.in-Gain.is c.process-clipped.ensures.0 c.process-clipped.ensures.1)

pub returns-in-MonoToStereo : goal.returns-in-MonoToStereo
returns-in-MonoToStereo c = rw c.held_samples-held.ensures.0 (stereo_makes c.args.format c.args.s.now c.requires _ c.in-MonoToStereo.is c.mono_to_stereo.ensures)

pub returns-in-StereoToMono : goal.returns-in-StereoToMono
returns-in-StereoToMono c = rw c.held_samples-held.ensures.0 (mono_makes c.args.format c.args.s.now c.requires _ c.in-StereoToMono.is c.stereo_to_mono.ensures)

pub returns-in-Resample : goal.returns-in-Resample
returns-in-Resample c = resample_makes c.args.format c.args.s.now c.requires _ _ c.in-Resample.is c.held_samples-held.ensures.0 c.held_samples-held.ensures.1 c.process-t.result _ c.process-t.ensures

pub returns-in-DcBlock : goal.returns-in-DcBlock
returns-in-DcBlock c = rw (c.filtered.ensures, c.held_samples-held.ensures.0) (dc_makes c.args.format c.args.s.now c.requires _ _ _ c.in-DcBlock.is c.process-t-in-DcBlock.ensures)

pub returns-in-Biquad : goal.returns-in-Biquad
returns-in-Biquad c = rw (c.filtered-in-Biquad.ensures, c.held_samples-held.ensures.0) (biquad_makes c.args.format c.args.s.now c.requires _ _ _ c.in-Biquad.is c.process-t-in-Biquad.ensures)
