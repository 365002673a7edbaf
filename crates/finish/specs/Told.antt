-- Number and values of a finish, by what its questions came to. Definitions only.
use Rattle.std.specs.Prelude.{cond, List, ℕ, eqb, Ok, Err}
use Rattle.pcm.specs.declared.PcmFormat.{PcmFormat}
use Rattle.pcm.specs.Refusals.{refusal, Verdict}
use Rattle.pipeline.specs.declared.Pipeline.{Pipeline}
use Rattle.pipeline.specs.Reset.{format_leaving}
use Rattle.pipeline.specs.WritingBack.{stages_of}
use Rattle.answers.specs.declared.Half.{Half}
use Rattle.answers.specs.declared.FinishTold.{FinishTold}
use Rattle.answers.specs.Answers.{last_half}
use Rattle.answers.specs.FinishAnswers.{sound_finish_told, silent_finish_told}
use Rattle.block.specs.BlockCall.{shorter}
use Rattle.finish.specs.FinishCall.{finish_verdict, finish_bytes, finish_clipped}

-- by the verdict, where `len` bytes of this format come out and so many samples are held back
abbrev pub told_of_finish : Verdict → PcmFormat → Half → ℕ → ℕ → FinishTold
told_of_finish (Ok _) f side len clipped = cond (eqb len 0) (silent_finish_told 0 0 2 clipped) (sound_finish_told f side len clipped)
told_of_finish (Err e) f side len clipped = silent_finish_told (refusal e).number (refusal e).needed 0 0

abbrev pub finish_call_told : Pipeline → List ℕ → List ℕ → FinishTold
finish_call_told c a b = told_of_finish (finish_verdict c (shorter a b)) (format_leaving c.format (stages_of c)) (last_half c.count) (finish_bytes c) (finish_clipped c)
