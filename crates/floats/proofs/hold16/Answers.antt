use mathlib.Core.Path.{sym, ◌∙◌}
use lib.Ieee.{of_bits, neg}
use Rattle.floats.proofs.Library.{held_is}
use Rattle.floats.proofs.hold16.Goals as goal

pub returns : goal.returns
unfolding of_bits neg
returns c = c.clamp.ensures.value ∙ sym (held_is c.args.x)
