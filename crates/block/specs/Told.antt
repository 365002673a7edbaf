-- Number and values of a block call, by what its questions came to. Definitions only.
use Rattle.std.specs.Prelude.{cond, List, ℕ, eqb, length, Ok, Err}
use Rattle.pcm.specs.declared.PcmFormat.{PcmFormat}
use Rattle.pcm.specs.Refusals.{refusal, Verdict}
use Rattle.pipeline.specs.declared.Pipeline.{Pipeline}
use Rattle.pipeline.specs.Reset.{format_leaving}
use Rattle.pipeline.specs.WritingBack.{stages_of}
use Rattle.answers.specs.declared.Half.{Half}
use Rattle.answers.specs.declared.Told.{Told}
use Rattle.block.specs.BlockCall.{shorter, block_verdict, output_bytes, block_clipped}
use Rattle.answers.specs.Answers.{last_half, sound_told, silent_told}

-- by the verdict, where `len` bytes of this format come out and so many samples are held back
abbrev pub told_of_block : Verdict → PcmFormat → ℕ → Half → ℕ → ℕ → Told
told_of_block (Ok _) f timestamp side len clipped = cond (eqb len 0) (silent_told 0 0 2 clipped) (sound_told f timestamp side len clipped)
told_of_block (Err e) f timestamp side len clipped = silent_told (refusal e).number (refusal e).needed 0 0

abbrev pub block_told : Pipeline → PcmFormat → ℕ → List ℕ → List ℕ → List ℕ → Told
block_told c format timestamp bytes a b =
    told_of_block (block_verdict c format (length bytes) (shorter a b)) (format_leaving c.format (stages_of c)) timestamp (last_half c.count) (output_bytes c bytes) (block_clipped c bytes)
