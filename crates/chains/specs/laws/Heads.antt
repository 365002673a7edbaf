-- The head that a chain answered is its own. Assumes nothing.
use Rattle.std.specs.Prelude.{◌≡◌, refl, Bool, true, false, cond, ◌&&◌, leb, length, Ok, Err, Result}
use Rattle.pcm.specs.declared.Error.{Error}
use Rattle.pcm.specs.declared.Error.TheVariants.{InvalidFormat}
use Rattle.pcm.specs.Formats.{format_allowed}
use Rattle.pipeline.specs.declared.Pipeline.{Pipeline}
use Rattle.chains.specs.Chains.{head_of, Headed}
use Rattle.chains.specs.declared.Head.{Head}

pub headed : (c : Pipeline) (own : Head) → Ok own ≡ head_of c → length c.stages ≡ 8 → Headed c own
headed c own e eight =
    let p = go (leb c.count 8 && format_allowed c.format) e in
    record { is = p.0; legal = p.1; eight = eight }
  where
    go : (b : Bool) → Ok own ≡ cond b (Ok (record { format = c.format; count = c.count })) (Err InvalidFormat) → (own ≡ record { format = c.format; count = c.count }) × (b ≡ true)
    go true h = (cc, refl)
    go false h = cc

-- where it answered none it is refused
pub headless : (c : Pipeline) (e : Error) → Err e ≡ head_of c → (e ≡ InvalidFormat) × (leb c.count 8 && format_allowed c.format ≡ false)
headless c e h = go (leb c.count 8 && format_allowed c.format) h
  where
    go : (b : Bool) → ◌≡◌ {A = Result Head Error} (Err e) (cond b (Ok (record { format = c.format; count = c.count })) (Err InvalidFormat)) → (e ≡ InvalidFormat) × (b ≡ false)
    go true h = cc
    go false h = (cc, refl)
