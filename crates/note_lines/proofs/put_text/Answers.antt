-- One byte more.
use Rattle.std.proofs.Common.{◌∙◌}
use Rattle.note_lines.proofs.Stores.{text_next}
use Rattle.note_lines.proofs.put_text.Goals as goal

pub loop-i-preserved : goal.loop-i-preserved
loop-i-preserved c =
    c.put_hex.ensures ∙ rw c.loop-i.invariant (text_next c.args.text.now c.args.out.now c.args.to c.loop-i.i c.loop-i-test.true)
