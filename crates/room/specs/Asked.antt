-- A block of n frames, as its questions are asked by its size in bytes. Definitions only.
use Rattle.std.specs.Prelude.{cond, ℕ, ◌*◌, leb}
use Rattle.pcm.specs.declared.PcmFormat.{PcmFormat}

-- one frame too many stands for all that are too many
abbrev pub asked_frames : ℕ → ℕ
asked_frames n = cond (leb n 8192) n 8193

abbrev pub asked_bytes : PcmFormat → ℕ → ℕ
asked_bytes f n = asked_frames n * (f.channels * 2)
