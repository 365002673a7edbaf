-- What the definitions come to: the chief theorem of this crate. Assumes nothing.
use Rattle.std.specs.Prelude.{◌≡◌, true, ℕ, ◌*◌, ◌≤◌}
use Rattle.std.proofs.Common.{mul-le-mul_right}
use Rattle.pcm.specs.declared.PcmFormat.{PcmFormat}
use Rattle.stage.specs.declared.StageKind.{StageKind}
use Rattle.stage.specs.declared.SoundMemory.{SoundMemory}
use Rattle.stage.specs.Stages.{format_after}
use Rattle.stage.specs.Rooms.{stage_suits, frames_out, room_wanted}
use Rattle.stage.specs.laws.Rooms.{wanted_holds}

-- the room that a stage wants holds the bytes that it delivers
pub room_holds_bytes : (f : PcmFormat) (m : SoundMemory) (k : StageKind) (n : ℕ) → stage_suits f k m ≡ true → frames_out k m n * ((format_after f k).channels * 2) ≤ room_wanted f k n
unfolding room_wanted
room_holds_bytes f m k n h = mul-le-mul_right ((format_after f k).channels * 2) (wanted_holds f m k n h)
