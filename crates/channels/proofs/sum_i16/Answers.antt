use Rattle.std.proofs.Common.{◌∙◌, to_z-of_z}
use Rattle.std.specs.Int.{w16}
use Rattle.pcm.specs.laws.Integers.{answered, read_back}
use Rattle.pcm.specs.laws.Sums.{Summed, summed}
use Rattle.channels.specs.Channels.{mixed}
use Rattle.channels.proofs.sum_i16.Goals as goal

pub returns : goal.returns
unfolding mixed
returns c =
    let s : Summed c.args.a c.args.b = summed c.args.a c.args.b c.ranges.a c.ranges.b in
    let a = c.from.ensures ∙ read_back c.ranges.a in
    let b = c.from-2.ensures ∙ read_back c.ranges.b in
    answered w16 c.held16.type_inv (simp (a, b, to_z-of_z, s.left, s.right, s.sum) at c.held16.ensures)
