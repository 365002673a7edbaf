-- The channel count is the number of a field of 16 bits.
use Rattle.std.proofs.Common.{◌≡◌, ◌∙◌, sym, ap, arith, ◌<◌, ℕ, List, Ok, Err, Result, Option, unwrap_or, refl}
use Rattle.std.specs.Result.{OkIff, result_unwrap_or}
use borrow.Author.Tests.{le-leb, lt-leb}
use Rattle.note_lines.specs.Arguments.{field_of}
use Rattle.note_lines.specs.laws.Arguments.{narrower}
use Rattle.note_lines.proofs.arguments.format.Goals as goal

narrowed : {E : Type 0} (text : List ℕ) (n : ℕ) → n ≡ field_of 0xffffffff text → (r : Result ℕ E) → OkIff r (n < 65536) n → result_unwrap_or r 0 ≡ field_of 0xffff text
narrowed text n e (Ok x) h = h.1 ∙ sym (narrower 0xffff 0xffffffff text (omega arith) ∙ rw (← e, le-leb n 0xffff (omega (arith, h.0))) refl)
narrowed text n e (Err x) h = sym (narrower 0xffff 0xffffffff text (omega arith) ∙ rw (← e, lt-leb n 0xffff (omega (arith, h))) refl)

pub returns : goal.returns
returns c =
    let n = c.unwrap_or-2.ensures ∙ ap (λ (o : Option ℕ). unwrap_or o 0) c.number-2.ensures in
    let w = c.unwrap_or-3.ensures ∙ narrowed c.args.channels.now c.unwrap_or-2.result n c.try_from.result c.try_from.ensures in
    let r = c.unwrap_or.ensures ∙ ap (λ (o : Option ℕ). unwrap_or o 0) c.number.ensures in
    rw (r, w) refl
