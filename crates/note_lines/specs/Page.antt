-- The desk program's page: the lines, or the refusal's number alone (document 02, Q-4). Definitions only.
use Rattle.std.specs.Prelude.{cond, List, [], ◌∷◌, ℕ, ◌/◌, ◌%◌, ltb, length, Ok, Err}
use Rattle.pcm.specs.declared.PcmFormat.{PcmFormat}
use Rattle.pcm.specs.Refusals.{refusal, room_verdict, verdict_of, Verdict}
use Rattle.pipeline.specs.declared.WriteTold.{WriteTold}
use Rattle.pipeline.specs.WritingBack.{WriteOutcome, write_outcome, told_of_writing}
use Rattle.desk.specs.Desk.{desk_open}
use Rattle.note_lines.specs.Arguments.{format_of}
use Rattle.note_lines.specs.Lines.{digit, lines_of}

-- a recipe of up to 1,048,576 bytes? else 10, first. Then opening's questions
unfoldable pub desk_verdict : PcmFormat → List ℕ → Verdict
desk_verdict f recipe = verdict_of (desk_open f recipe)

-- a refusal's number, which is below 100, in decimal digits; a line feed
unfoldable pub number_line : ℕ → List ℕ
number_line n = cond (ltb n 10) (digit n ∷ 0x0a ∷ []) (digit (n / 10) ∷ digit (n % 10) ∷ 0x0a ∷ [])

-- the lines, or the refusal number alone
abbrev pub printed : Verdict → List ℕ → List ℕ
printed (Ok _) recipe = lines_of recipe
printed (Err e) recipe = number_line (refusal e).number

-- the page of a recipe, with rate and channels as they were typed
unfoldable pub page_of : List ℕ → List ℕ → List ℕ → List ℕ
page_of rate channels recipe = printed (desk_verdict (format_of rate channels) recipe) recipe

-- a page at the front of a buffer. Is there room? else 3, with needed the bytes of the page; bytes past those written stay, and a refusal alters nothing
unfoldable pub page_call : List ℕ → List ℕ → WriteOutcome
page_call bytes out = write_outcome (room_verdict (length bytes) (length out)) bytes out

abbrev pub page_told : List ℕ → ℕ → WriteTold
page_told bytes room = told_of_writing (room_verdict (length bytes) room) (length bytes)
