-- What an accepted call was asked, and the numbers of refusals. Assumes nothing.
use Rattle.std.specs.Prelude.{◌≡◌, refl, Bool, true, false, ℕ, ◌≤◌, ◌<◌, leb, Ok, Err}
use Rattle.std.proofs.Common.{arith, leb-true}
use Rattle.pcm.specs.declared.Error.{Error}
use Rattle.pcm.specs.declared.Error.TheVariants as error
use Rattle.pcm.specs.Refusals.{refusal, ask, and_then, room_verdict, Verdict}

-- both of two questions are answered yes
pub ask_yes : (t : Bool) (e : Error) (v : Verdict) → ask t e v ≡ Ok tt → (t ≡ true) × (v ≡ Ok tt)
ask_yes true e v h = (refl, h)
ask_yes false e v h = (cc, cc)

pub then_yes : (v more : Verdict) → and_then v more ≡ Ok tt → (v ≡ Ok tt) × (more ≡ Ok tt)
then_yes (Ok _) more h = (refl, h)
then_yes (Err e) more h = (cc, cc)

pub room_enough : (needed room : ℕ) → room_verdict needed room ≡ Ok tt → needed ≤ room
unfolding room_verdict
room_enough needed room h = leb-true needed room (ask_yes (leb needed room) _ _ h).0

-- a refusal's number is some, and of one or two digits
pub number_within : (e : Error) → (0 < (refusal e).number) × ((refusal e).number < 100)
number_within error.InvalidFormat = (omega arith, omega arith)
number_within error.Unsupported = (omega arith, omega arith)
number_within (error.BufferTooSmall n) = (omega arith, omega arith)
number_within error.InvalidGeometry = (omega arith, omega arith)
number_within error.ShortRecord = (omega arith, omega arith)
number_within error.UnknownStage = (omega arith, omega arith)
number_within error.RecordLength = (omega arith, omega arith)
number_within error.TooManyStages = (omega arith, omega arith)
number_within error.SettingOutOfRange = (omega arith, omega arith)
number_within error.TooLong = (omega arith, omega arith)
number_within error.NoteTooLong = (omega arith, omega arith)
