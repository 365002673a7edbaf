-- The stream that the plain chain is fed, and the calls one after another (document 01, 'The whole stream'; document 02, Q-1). Definitions only.
use Rattle.pcm.specs.Refusals.{Verdict}
use Rattle.std.specs.Prelude.{List, [], ◌∷◌, ◌++◌, Ok, Err}
use Rattle.pcm.specs.Frames.{Frame, frames_of}
use Rattle.pipeline.specs.declared.Pipeline.{Pipeline}
use Rattle.block.specs.BlockCall.{shorter}
use Rattle.stream.specs.Calls.{Call, block, reset, finish, Run, fresh, after_call}
use Rattle.stream.specs.Opened.{kinds_in}
use Rattle.stream.specs.PlainRoom.{plain_verdict}
use Rattle.stream.specs.PlainEnd.{plain_finish}

-- ---- the stream
-- its frames between two calls: it goes on, or the last call, an accepted finish, ended it
pub data Stream : Type 0 where
  running : List Frame → Stream
  ended : List Frame → Stream

-- the frames of the stream that the next call falls into: a call after an accepted finish begins a new one
abbrev pub fed : Stream → List Frame
fed (running X) = X
fed (ended X) = []

-- a refused block adds nothing
abbrev pub added_by : Verdict → List Frame → List Frame
added_by (Ok _) Y = Y
added_by (Err e) Y = []

-- an accepted finish ends the stream, a refused one adds nothing
abbrev pub ended_by : Verdict → List Frame → Stream
ended_by (Ok _) X = ended X
ended_by (Err e) X = running X

-- the stream X after a call on the chain o: an accepted block's frames are added; reset empties it
abbrev pub after_feeding : Pipeline → List Frame → Call → Stream
after_feeding o X (block format timestamp bytes a b) =
    running (X ++ added_by (plain_verdict o.format (kinds_in o) X format bytes (shorter a b)) (frames_of o.format.channels bytes))
after_feeding o X reset = running []
after_feeding o X (finish a b) = ended_by (plain_finish o.format (kinds_in o) X (shorter a b)) X

abbrev pub stream_from : Pipeline → Stream → List Call → Stream
stream_from o S [] = S
stream_from o S (call ∷ calls) = stream_from o (after_feeding o (fed S) call) calls

-- opening, like reset, empties the stream
abbrev pub stream_of : Pipeline → List Call → Stream
stream_of o calls = stream_from o (running []) calls

-- ---- one call after another
-- what was gathered so far in the stream that the next call falls into: a new one has nothing yet
abbrev pub gathered_in : {A : Type 0} → Stream → A → A → A
gathered_in (running X) gathered nothing = gathered
gathered_in (ended X) gathered nothing = nothing

abbrev pub within : Stream → Run → Run
within S r = record { chain = r.chain; joined = gathered_in S r.joined []; clipped = gathered_in S r.clipped 0 }

abbrev pub after_calls : Pipeline → Stream → Run → List Call → Run
after_calls o S r [] = r
after_calls o S r (call ∷ calls) = after_calls o (after_feeding o (fed S) call) (after_call (within S r) call) calls

-- the calls on the chain o
abbrev pub run_of : Pipeline → List Call → Run
run_of o calls = after_calls o (running []) (fresh o) calls
