-- Refusals and their numbers (document 01, 'The questions'; document 02, Q-4). Definitions only.
use Rattle.std.specs.Prelude.{ℕ, Bool, true, false, leb, Result, Ok, Err}
use Rattle.pcm.specs.declared.Error.{Error}
use Rattle.pcm.specs.declared.Error.TheVariants.{InvalidFormat, Unsupported, BufferTooSmall, InvalidGeometry, ShortRecord, UnknownStage, RecordLength, TooManyStages, SettingOutOfRange, TooLong, NoteTooLong}
use Rattle.pcm.specs.declared.Valued.{Valued}

-- a refusal yields its number, and 3 also the bytes needed
pub record Refusal : Type 0 where
  pub number : ℕ
  pub needed : ℕ

abbrev pub refusal : Error → Refusal
refusal InvalidFormat = record { number = 1; needed = 0 }
refusal Unsupported = record { number = 2; needed = 0 }
refusal (BufferTooSmall n) = record { number = 3; needed = n }
refusal InvalidGeometry = record { number = 4; needed = 0 }
refusal ShortRecord = record { number = 5; needed = 0 }
refusal UnknownStage = record { number = 6; needed = 0 }
refusal RecordLength = record { number = 7; needed = 0 }
refusal TooManyStages = record { number = 8; needed = 0 }
refusal SettingOutOfRange = record { number = 9; needed = 0 }
refusal TooLong = record { number = 10; needed = 0 }
refusal NoteTooLong = record { number = 11; needed = 0 }

-- what a call's questions come to: accepted, or refused with an error
abbrev pub Verdict : Type 0
Verdict = Result Unit Error

-- a question that is answered no ends the call with its refusal
abbrev pub ask : Bool → Error → Verdict → Verdict
ask true e more = more
ask false e more = Err e

-- further questions, where those before were answered yes
abbrev pub and_then : Verdict → Verdict → Verdict
and_then (Ok _) more = more
and_then (Err e) more = Err e

-- 0, or the refusal's number
abbrev pub number_of : Verdict → ℕ
number_of (Ok _) = 0
number_of (Err e) = (refusal e).number

-- what the questions came to of a call that answers this
abbrev pub verdict_of : {A : Type 0} → Result A Error → Verdict
verdict_of (Ok x) = Ok tt
verdict_of (Err e) = Err e

-- a value that only an accepted call gives, and what stands for it where the call is refused
abbrev pub if_accepted : {A : Type 0} → Verdict → A → A → A
if_accepted (Ok _) value none = value
if_accepted (Err e) value none = none

-- what a call that gives a number tells: 0 and its value, or the refusal's number and 0
abbrev pub valued : Verdict → ℕ → Valued
valued v value = record { number = number_of v; value = if_accepted v value 0 }

-- the same of its answer
abbrev pub value_told : Result ℕ Error → Valued
value_told (Ok n) = valued (Ok tt) n
value_told (Err e) = valued (Err e) 0

-- is there room for the bytes needed? else 3
unfoldable pub room_verdict : ℕ → ℕ → Verdict
room_verdict needed room = ask (leb needed room) (BufferTooSmall needed) (Ok tt)
