use Rattle.std.proofs.Common.{◌∙◌, to_z-of_z, SFits, pos, negsuc, ◌-ℤ◌}
use Rattle.std.specs.Int.{w32}
use Rattle.std.proofs.Math.Facts.{sfits_lit}
use Rattle.pcm.specs.laws.Integers.{read_back}
use Rattle.pcm.specs.laws.Sums.{Summed, summed}
use Rattle.channels.proofs.Sums.{room_fits, room_below, room_above}
use Rattle.channels.proofs.sum_outside.Goals as goal

pub returns-then-b-lt0 : goal.returns-then-b-lt0
returns-then-b-lt0 c =
    let s : Summed c.args.a c.args.b = summed c.args.a c.args.b c.ranges.a c.ranges.b in
    let a = c.from.ensures ∙ read_back c.ranges.a in
    let b = c.from-then-b-lt0.ensures ∙ read_back c.ranges.b in
    let room : SFits w32 (negsuc 32767 -ℤ c.args.b) = room_fits (negsuc 32767) c.args.b (sfits_lit tt) c.ranges.b in
    simp (a, b, to_z-of_z, s.left, s.right, room) (room_below c.args.a c.args.b c.ranges.a c.ranges.b (rw (read_back c.ranges.b) at c.if-b-lt0.true))

pub returns-else-b-lt0 : goal.returns-else-b-lt0
returns-else-b-lt0 c =
    let s : Summed c.args.a c.args.b = summed c.args.a c.args.b c.ranges.a c.ranges.b in
    let a = c.from-else-b-lt0.ensures ∙ read_back c.ranges.a in
    let b = c.from-else-b-lt0-2.ensures ∙ read_back c.ranges.b in
    let room : SFits w32 (pos 32767 -ℤ c.args.b) = room_fits (pos 32767) c.args.b (sfits_lit tt) c.ranges.b in
    simp (a, b, to_z-of_z, s.left, s.right, room) (room_above c.args.a c.args.b c.ranges.a c.ranges.b (rw (read_back c.ranges.b) at c.if-b-lt0.false))
