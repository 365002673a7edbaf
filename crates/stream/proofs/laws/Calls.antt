-- Laws of the definitions in Calls: that what is lent has bytes, by a test that computes. Assumes nothing.
use Rattle.std.specs.Prelude.{◌≡◌, Bool, true, ◌&&◌, List, [], ◌∷◌, ℕ, ltb}
use Rattle.std.proofs.Common.{ltb-true}
use Rattle.pcm.specs.Samples.{All, Bytes}
use Rattle.pcm.specs.laws.Tests.{both}
use Rattle.stream.specs.Calls.{Call, block, reset, finish, Lent}

abbrev all_below : List ℕ → Bool
all_below [] = true
all_below (x ∷ l) = ltb x 256 && all_below l

bytes_below : (l : List ℕ) → all_below l ≡ true → Bytes l
bytes_below [] h = tt
bytes_below (x ∷ l) h = let k = both (ltb x 256) (all_below l) h in (ltb-true x 256 k.0, bytes_below l k.1)

abbrev pub all_lent : List Call → Bool
all_lent [] = true
all_lent (block format timestamp bytes a b ∷ calls) = all_below bytes && all_lent calls
all_lent (reset ∷ calls) = all_lent calls
all_lent (finish a b ∷ calls) = all_lent calls

pub all_lent_lem : (calls : List Call) → all_lent calls ≡ true → All Lent calls
all_lent_lem [] h = tt
all_lent_lem (block format timestamp bytes a b ∷ calls) h = let k = both (all_below bytes) (all_lent calls) h in (bytes_below bytes k.0, all_lent_lem calls k.1)
all_lent_lem (reset ∷ calls) h = (tt, all_lent_lem calls h)
all_lent_lem (finish a b ∷ calls) h = (tt, all_lent_lem calls h)
