-- The plain chain's end (document 02, Q-1): each stage makes all it makes of what it has received, then its last frame. Definitions only.
use Rattle.std.specs.Prelude.{List, [], ◌∷◌, ◌++◌, ℕ, suc, ◌*◌, leb, length, take, drop, Ok}
use Rattle.pcm.specs.declared.PcmFormat.{PcmFormat}
use Rattle.pcm.specs.declared.Error.TheVariants.{BufferTooSmall}
use Rattle.pcm.specs.Refusals.{ask, Verdict}
use Rattle.pcm.specs.Frames.{Frame}
use Rattle.stage.specs.declared.StageKind.{StageKind}
use Rattle.stage.specs.declared.StageKind.TheVariants as kind
use Rattle.stage.specs.Stages.{format_after}
use Rattle.ending.specs.ResamplerEnd.{whole_last}
use Rattle.stream.specs.PlainChain.{plain_stage, through}

-- ---- one stage
-- what a stage that has received X adds at its end: a resampler of unequal rates, with T at least 1 and (T - 1) * out_r divisible by in_r,
-- X's last frame; every other stage nothing
unfoldable pub plain_last : StageKind → List Frame → List Frame
plain_last (kind.Gain g) X = []
plain_last kind.MonoToStereo X = []
plain_last kind.StereoToMono X = []
plain_last (kind.Resample r) X = whole_last r X
plain_last (kind.DcBlock b) X = []
plain_last (kind.Biquad b) X = []

-- all it makes of X, then its last frame
unfoldable pub plain_ended : StageKind → List Frame → List Frame
plain_ended k X = plain_stage k X ++ plain_last k X

-- ---- the chain
-- the next stage receives that whole, and ends in turn
abbrev pub plain_end : List StageKind → List Frame → List Frame
plain_end ks X = through plain_ended ks X

-- what the stage with i stages before it has then received and delivered
abbrev pub received_at_end : ℕ → List StageKind → List Frame → List Frame
received_at_end i ks X = plain_end (take i ks) X

abbrev pub delivered_at_end : ℕ → List StageKind → List Frame → List Frame
delivered_at_end i ks X = plain_end (take (suc i) ks) X

-- ---- the questions of a finish
-- what a stage that has received X delivers in the call in which Y arrives and it ends
abbrev pub ended_next : StageKind → List Frame → List Frame → List Frame
ended_next k X Y = drop (length (plain_stage k X)) (plain_ended k (X ++ Y))

-- the room a stage wants here is the bytes it delivers in this call
abbrev pub plain_room_at_end : PcmFormat → StageKind → List Frame → List Frame → ℕ
plain_room_at_end f k X Y = length (ended_next k X Y) * ((format_after f k).channels * 2)

-- at each stage, in chain order, does the shorter half hold it? else 3, with needed = twice that of the first stage short
unfoldable pub plain_end_room : PcmFormat → List StageKind → List Frame → List Frame → ℕ → Verdict
plain_end_room f [] X Y shorter = Ok tt
plain_end_room f (k ∷ ks) X Y shorter =
    ask (leb (plain_room_at_end f k X Y) shorter) (BufferTooSmall (2 * plain_room_at_end f k X Y))
    (plain_end_room (format_after f k) ks (plain_stage k X) (ended_next k X Y) shorter)

-- of a chain that has taken the stream X; nothing arrives at its first stage
abbrev pub plain_finish : PcmFormat → List StageKind → List Frame → ℕ → Verdict
plain_finish f ks X shorter = plain_end_room f ks X [] shorter
