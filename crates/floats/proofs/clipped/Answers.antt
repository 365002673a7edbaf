use mathlib.Core.Path.{ap, ◌∙◌}
use lib.Ieee.{Float, ne}
use Rattle.std.proofs.lemmas.Float.{T_from_true}
use Rattle.floats.proofs.Held.{held}
use Rattle.floats.proofs.clipped.Goals as goal

pub returns : goal.returns
returns c = ap (λ (h : Float). ne h c.args.v) c.hold16.ensures ∙ (held c.args.v (T_from_true _ c.well_formed.0.1)).differs
