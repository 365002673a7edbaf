-- Number and values of the room, from the answer that they are of. Assumes nothing.
use Rattle.pcm.specs.declared.Error.{Error}
use Rattle.room.specs.declared.Room.{Room}
use Rattle.std.specs.Prelude.{Ok, Err, Result}
use Rattle.pcm.specs.Refusals.{Verdict}
use mathlib.Core.Path.{◌≡◌, refl, ap, ◌∙◌}
use Prim.Native.Nat.{ℕ}
use Rattle.pipeline.specs.declared.Pipeline.{Pipeline}
use Rattle.questions.specs.declared.Walk.{Walk}
use Rattle.room.specs.Room.{block_found, finish_found, block_asked, finish_asked, room_answer, block_room, finish_room, room_told, told_of_room, block_room_told, finish_room_told}

told_by : (v : Verdict) (w : Walk) → room_told (room_answer v w) ≡ told_of_room v w
told_by (Ok _) w = refl
told_by (Err e) w = refl

pub block_told_lem : (c : Pipeline) (n : ℕ) (r : (Result Room Error)) → r ≡ block_room c n → (r ≡ block_room c n) × (room_told r ≡ block_room_told c n)
unfolding block_room
block_told_lem c n r e = (e, ap room_told e ∙ told_by (block_asked c n) (block_found c n))

pub finish_told_lem : (c : Pipeline) (r : (Result Room Error)) → r ≡ finish_room c → (r ≡ finish_room c) × (room_told r ≡ finish_room_told c)
unfolding finish_room
finish_told_lem c r e = (e, ap room_told e ∙ told_by (finish_asked c) (finish_found c))
