use Rattle.std.proofs.Common.{◌≡◌, refl, arith, []}
use Rattle.ending.specs.StageEnd.{last_of}
use Rattle.ending.specs.laws.ResamplerEnd.{resampler_end_frames}
use Rattle.end_turns.proofs.Fronting.{none_fronted}
use Rattle.end_turns.proofs.put_last.Goals as goal

pub returns-in-Resample : goal.returns-in-Resample
returns-in-Resample c =
    let held = c.held_samples.ensures in
    rw (c.in-Resample.is, ← held.0)
    (c.put_held.ensures, rw held.0 (resampler_end_frames c.args.channels c.in-Resample.r c.args.memory.resampler c.requires.0.1 held.2 held.1))

pub returns-in-Gain : goal.returns-in-Gain
returns-in-Gain c =
    let none : last_of c.args.channels c.args.kind c.args.memory ≡ [] = grind arith in
    rw none (none_fronted [] c.args.out.now refl, tt)
