-- A whole sound through a chain: by blocks of 1,024 frames, the last shorter, ended by the finish call, what comes out gathered (document 02, Q-7).
-- Definitions only.
use Rattle.std.specs.Prelude.{Ok, Err, Result}
use Rattle.pcm.specs.Refusals.{Verdict, verdict_of}
use mathlib.Core.Bool.{cond}
use mathlib.Core.List.{List, [], ◌∷◌, ◌++◌}
use Prim.Native.Nat.{ℕ, ◌+◌, ◌*◌}
use lib.Dec.{leb}
use lib.ListN.{length}
use Rattle.pcm.specs.declared.PcmFormat.{PcmFormat}
use Rattle.pcm.specs.declared.Error.{Error}
use Rattle.pcm.specs.declared.Error.TheVariants.{TooLong}
use Rattle.pcm.specs.Formats.{frame_bytes}
use Rattle.pcm.specs.Frames.{cut, written}
use Rattle.rates.specs.Counting.{ceil_div}
use Rattle.pipeline.specs.declared.Pipeline.{Pipeline}
use Rattle.block.specs.BlockCall.{BlockResult, block_call}
use Rattle.finish.specs.FinishCall.{FinishResult, finish_call}
use Rattle.stream.specs.Calls.{call_output, finish_output}

-- ---- blocks of 1,024 frames, the last shorter; sound of no bytes makes none
abbrev pub block_bytes : PcmFormat → ℕ
block_bytes f = 1024 * frame_bytes f

abbrev pub blocks_of : ℕ → List ℕ → List (List ℕ)
blocks_of size sound = cut size (ceil_div (length sound) size) sound

-- ---- one call after another
-- the chain, both halves, and what came out so far
pub record Playing : Type 0 where
  pub chain : Pipeline
  pub a : List ℕ
  pub b : List ℕ
  pub sound : List ℕ

-- it goes on, or a refusal ended it
pub data Played : Type 0 where
  going : Playing → Played
  stopped : Error → Playing → Played

abbrev pub unless_stopped : Played → (Playing → Played) → Played
unless_stopped (going p) more = more p
unless_stopped (stopped e p) more = stopped e p

-- after a call of this verdict and this output, where `limit` bytes may be gathered: a refusal ends it, and so does output that passes the limit, with 10
abbrev pub gathering : ℕ → Verdict → List ℕ → Playing → Played
gathering limit (Err e) output p = stopped e p
gathering limit (Ok _) output p =
    cond (leb (length p.sound + length output) limit)
    (going (record { chain = p.chain; a = p.a; b = p.b; sound = p.sound ++ output }))
    (stopped TooLong p)

-- ---- a block
abbrev pub block_gathered : ℕ → BlockResult → List ℕ → Played
block_gathered limit r sound = gathering limit (verdict_of r.answer) (call_output r) (record { chain = r.chain; a = r.a; b = r.b; sound = sound })

abbrev pub after_block : ℕ → PcmFormat → List ℕ → Playing → Played
after_block limit f block p = block_gathered limit (block_call p.chain f 0 block p.a p.b) p.sound

-- ---- the finish
abbrev pub finish_gathered : ℕ → FinishResult → List ℕ → Played
finish_gathered limit r sound = gathering limit (verdict_of r.answer) (finish_output r) (record { chain = r.chain; a = r.a; b = r.b; sound = sound })

abbrev pub after_finish : ℕ → Playing → Played
after_finish limit p = finish_gathered limit (finish_call p.chain p.a p.b) p.sound

-- ---- the blocks in turn, and then the finish
unfoldable pub play_blocks : ℕ → PcmFormat → List (List ℕ) → Playing → Played
play_blocks limit f [] p = after_finish limit p
play_blocks limit f (block ∷ more) p = unless_stopped (after_block limit f block p) (play_blocks limit f more)

-- what is left behind: the answer, the halves, and what came out at the front of out
pub record PlayOutcome : Type 0 where
  pub gathered : Result ℕ Error
  pub a : List ℕ
  pub b : List ℕ
  pub out : List ℕ

abbrev pub left : List ℕ → Played → PlayOutcome
left out (going p) = record { gathered = Ok (length p.sound); a = p.a; b = p.b; out = written p.sound out }
left out (stopped e p) = record { gathered = Err e; a = p.a; b = p.b; out = written p.sound out }

-- the sound through the chain c; as much is gathered as out holds
unfoldable pub play_call : Pipeline → PcmFormat → List ℕ → List ℕ → List ℕ → List ℕ → PlayOutcome
play_call c f sound a b out = left out (play_blocks (length out) f (blocks_of (block_bytes f) sound) (record { chain = c; a = a; b = b; sound = [] }))
