use Rattle.std.proofs.Common.{◌*◌, length, drop}
use Rattle.pcm.specs.Frames.{written}
use Rattle.pcm.specs.laws.Writing.{Writing}
use Rattle.channels.specs.Channels.{stereo_bytes}
use Rattle.channels.proofs.mono_to_stereo.Given as goal

-- the frames before k are written
abbrev pub invariant-loop-k : goal.invariant-loop-k
invariant-loop-k l = Writing (written (stereo_bytes l.input) l.initial.out) (stereo_bytes (drop (2 * l.k) l.input)) (length l.input * 2) l.initial.out l.out (4 * l.k)
