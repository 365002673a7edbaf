-- Opening a recipe at the desk (document 02, Q-4 and Q-7). Definitions only.
use Rattle.std.specs.Prelude.{cond, List, ℕ, leb, length, Result, Err}
use Rattle.pcm.specs.declared.PcmFormat.{PcmFormat}
use Rattle.pcm.specs.declared.Error.{Error}
use Rattle.pcm.specs.declared.Error.TheVariants.{TooLong}
use Rattle.pipeline.specs.declared.Pipeline.{Pipeline}
use Rattle.pipeline.specs.Opening.{open_call}

-- a recipe of up to 1,048,576 bytes? else 10, first. Then opening's questions, and the chain
unfoldable pub desk_open : PcmFormat → List ℕ → Result Pipeline Error
desk_open f recipe = cond (leb (length recipe) 1048576) (open_call f recipe) (Err TooLong)
