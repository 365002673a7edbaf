-- What the definitions come to: the chief theorem of this crate. Assumes nothing.
use Rattle.std.specs.Prelude.{◌≡◌, refl, List, ℕ, ◌*◌, ◌≤◌, length, Ok}
use Rattle.std.proofs.Common.{le-leb}
use Rattle.pcm.specs.Frames.{written}
use Rattle.pcm.specs.Refusals.{room_verdict}
use Rattle.note_lines.specs.Arguments.{format_of}
use Rattle.note_lines.specs.Page.{desk_verdict, page_of, page_call}
use Rattle.note_lines.specs.laws.Page.{desk_readable, printed_fits}

-- with twice the recipe's bytes of room, and at least three, the whole page is written: nothing is refused for room
pub page_written : (rate channels recipe out : List ℕ) → 2 * length recipe ≤ length out → 3 ≤ length out
    → page_call (page_of rate channels recipe) out ≡ record { answer = Ok (length (page_of rate channels recipe)); out = written (page_of rate channels recipe) out }
unfolding page_call page_of room_verdict
page_written rate channels recipe out h k =
    let f = format_of rate channels in
    let v = desk_verdict f recipe in
    rw (le-leb _ (length out) (printed_fits v recipe (length out) (desk_readable f recipe v refl) h k))
