-- The room of a chain that answered its head, and of one that did not. Assumes nothing.
use Rattle.std.specs.Prelude.{◌≡◌, ℕ, ◌<◌, Err, Result}
use Rattle.std.proofs.Common.{ap, ◌∙◌, subst}
use Rattle.pcm.specs.declared.Error.{Error}
use Rattle.pcm.specs.declared.PcmFormat.{PcmFormat}
use Rattle.pipeline.specs.declared.Pipeline.{Pipeline}
use Rattle.chains.specs.declared.Head.{Head}
use Rattle.chains.specs.Chains.{head_of, Headed}
use Rattle.chains.specs.laws.Heads.{headless}
use Rattle.block.specs.laws.Heads.{own_channels, format_is}
use Rattle.block.specs.laws.Walking.{head_illegal}
use Rattle.room.specs.declared.Room.{Room}
use Rattle.room.specs.Room.{block_room, finish_room}
use Rattle.room.specs.laws.Asked.{block_room_refused, finish_room_refused}

pub same_channels : (c : Pipeline) (own : Head) → Headed c own → 0 < c.format.channels
same_channels c own e = subst (λ (f : PcmFormat). 0 < f.channels) (format_is c own e) (own_channels c own e).0

-- no head is refused with 1
module _ (c : Pipeline) (x : Error) (h : Err x ≡ head_of c) where
  pub block_headless : (n : ℕ) → Err x ≡ block_room c n
  block_headless n = ap (λ (y : Error). let r : Result Room Error = Err y in r) (headless c x h).0 ∙ block_room_refused c (head_illegal c (headless c x h).1) n

  pub finish_headless : Err x ≡ finish_room c
  finish_headless = ap (λ (y : Error). let r : Result Room Error = Err y in r) (headless c x h).0 ∙ finish_room_refused c (head_illegal c (headless c x h).1)
