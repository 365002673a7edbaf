-- The questions that a block is asked (document 01, 'The questions'), of the stages that would then take frames in the plain chain. Definitions only.
use Rattle.std.specs.Prelude.{List, [], ◌∷◌, ◌++◌, ℕ, ◌*◌, ◌/◌, leb, length, drop, Ok}
use Rattle.pcm.specs.declared.PcmFormat.{PcmFormat}
use Rattle.pcm.specs.declared.Error.TheVariants.{Unsupported, BufferTooSmall, InvalidGeometry, TooLong}
use Rattle.pcm.specs.Refusals.{ask, Verdict}
use Rattle.pcm.specs.Frames.{Frame, frames_of}
use Rattle.stage.specs.declared.StageKind.{StageKind}
use Rattle.stage.specs.Stages.{format_after}
use Rattle.stage.specs.Rooms.{room_wanted}
use Rattle.questions.specs.Walk.{whole_frames, same_format}
use Rattle.stream.specs.PlainChain.{plain_stage}

-- ---- definitions
-- what a stage that has received X delivers of Y, the frames that it would then take
abbrev pub delivered_next : StageKind → List Frame → List Frame → List Frame
delivered_next k X Y = drop (length (plain_stage k X)) (plain_stage k (X ++ Y))

-- at each stage that will be reached, in chain order, does the shorter half hold the room wanted?
-- else 3, with needed = twice the room of the first stage short
unfoldable pub plain_room : PcmFormat → List StageKind → List Frame → List Frame → ℕ → Verdict
plain_room f [] X Y shorter = Ok tt
plain_room f (k ∷ ks) X [] shorter = Ok tt
plain_room f (k ∷ ks) X (y ∷ Y) shorter =
    ask (leb (room_wanted f k (length (y ∷ Y))) shorter) (BufferTooSmall (2 * room_wanted f k (length (y ∷ Y))))
    (plain_room (format_after f k) ks (plain_stage k X) (delivered_next k X (y ∷ Y)) shorter)

-- for no stages, twice the block
abbrev pub plain_halves : PcmFormat → List StageKind → List Frame → List ℕ → ℕ → Verdict
plain_halves f [] X bytes shorter = ask (leb (length bytes) shorter) (BufferTooSmall (2 * length bytes)) (Ok tt)
plain_halves f (k ∷ ks) X bytes shorter = plain_room f (k ∷ ks) X (frames_of f.channels bytes) shorter

-- whole frames of the chain's format, at least one? else 4. At most 8,192? else 10. In the chain's format? else 2. Room? else 3
unfoldable pub plain_verdict : PcmFormat → List StageKind → List Frame → PcmFormat → List ℕ → ℕ → Verdict
plain_verdict f ks X format bytes shorter =
    ask (whole_frames f (length bytes)) InvalidGeometry
    (ask (leb (length bytes / (f.channels * 2)) 8192) TooLong
    (ask (same_format f format) Unsupported
    (plain_halves f ks X bytes shorter)))
