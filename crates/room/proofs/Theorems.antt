-- What `block_room` and `finish_room` answer is what the calls then do: the chief theorems of this crate (document 02, Q-5). Assumes nothing.
use Rattle.pcm.specs.Refusals.{Verdict}
use Rattle.std.specs.Prelude.{◌≡◌, true, ℕ, ◌*◌, ◌≤◌, ◌<◌, Err}
use Rattle.std.proofs.Common.{le_antisymm}
use Rattle.pcm.specs.declared.Error.{Error}
use Rattle.pcm.specs.declared.PcmFormat.{PcmFormat}
use Rattle.pipeline.specs.declared.Pipeline.{Pipeline}
use Rattle.block.specs.BlockCall.{legal, block_verdict}
use Rattle.room.specs.Beforehand.{Smallest, BlockBeforehand, FinishBeforehand, Sounding, frame_bytes}
use Rattle.room.specs.Room.{block_room}
use Rattle.room.proofs.laws.Enough.{no_larger}
use Rattle.room.proofs.laws.Known.{block_known, finish_known, refused_then, block_answered, finish_answered}

-- of a legal chain 1 to 8,192 frames are never refused, nor is a finish, and the calls do what was answered
module _ (c : Pipeline) (sound : Sounding c) (lawful : legal c ≡ true) where
  pub block_beforehand : (n : ℕ) → 0 < n → n ≤ 8192 → BlockBeforehand c n
  block_beforehand n some most = let e = block_answered c lawful n some most in record { frames = _; half = _; answer = e; known = block_known c sound n _ _ e }

  pub finish_beforehand : FinishBeforehand c
  finish_beforehand = let e = finish_answered c lawful in record { frames = _; half = _; answer = e; known = finish_known c sound _ _ e }

-- what is refused beforehand, the block call refuses with the same number, whatever the halves
pub refused_alike : (c : Pipeline) (n : ℕ) (e : Error) → block_room c n ≡ Err e → (format : PcmFormat) (shorter : ℕ) → block_verdict c format (n * frame_bytes c) shorter ≡ Err e
unfolding block_verdict
refused_alike c n e known format shorter = refused_then c n e known _

-- there is but one smallest half
pub one_smallest : (verdict : ℕ → Verdict) (m n : ℕ) → Smallest verdict m → Smallest verdict n → m ≡ n
one_smallest verdict m n p q = le_antisymm (no_larger verdict m n p q) (no_larger verdict n m q p)
