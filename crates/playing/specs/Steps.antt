-- A call's output behind what is gathered. Definitions only.
use Rattle.std.specs.Prelude.{cond, List, ◌++◌, ℕ, ◌+◌, leb, length, take, drop, Ok, Err, Result}
use Rattle.pcm.specs.declared.Error.{Error}
use Rattle.pcm.specs.declared.Error.TheVariants.{TooLong}
use Rattle.pcm.specs.Frames.{written}
use Rattle.pcm.specs.Refusals.{Verdict}

-- the output behind the first n bytes of out
pub record Joined : Type 0 where
  pub gathered : Result ℕ Error
  pub out : List ℕ

abbrev pub appended : ℕ → List ℕ → List ℕ → Joined
appended n output out =
    cond (leb (n + length output) (length out))
    (record { gathered = Ok (n + length output); out = take n out ++ written output (drop n out) })
    (record { gathered = Err TooLong; out = out })

-- unless the call was refused
abbrev pub joined_by : Verdict → ℕ → List ℕ → List ℕ → Joined
joined_by (Ok _) n output out = appended n output out
joined_by (Err e) n output out = record { gathered = Err e; out = out }
