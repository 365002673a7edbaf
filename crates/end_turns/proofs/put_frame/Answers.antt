use Rattle.std.proofs.Common.{rules, ◌≡◌, arith, length, get_or, pos, of_z, to_z, w16}
use Rattle.end_turns.proofs.Fronting.{mono_fronted, stereo_fronted}
use Rattle.end_turns.proofs.put_frame.Goals as goal

pub returns-then-channels-eq1 : goal.returns-then-channels-eq1
returns-then-channels-eq1 c =
    let two : length c.args.last ≡ 2 = search rules in
    let left : to_z w16 (of_z w16 (get_or c.args.last 0 (pos 0))) ≡ get_or c.args.last 0 (pos 0) = search rules in
    mono_fronted c.args.last c.args.out.now two c.args.channels _ c.if-channels-eq1.true (omega (arith, c.requires)) (rw left at c.put_i16.ensures)

pub returns : goal.returns
returns c =
    let two : length c.args.last ≡ 2 = search rules in
    let left : to_z w16 (of_z w16 (get_or c.args.last 0 (pos 0))) ≡ get_or c.args.last 0 (pos 0) = search rules in
    let right : to_z w16 (of_z w16 (get_or c.args.last 1 (pos 0))) ≡ get_or c.args.last 1 (pos 0) = search rules in
    stereo_fronted c.args.last c.args.out.now two c.args.channels _ _ (omega (arith, c.requires, c.if-channels-eq1.false)) (omega (arith, c.requires, c.if-channels-eq1.false))
    (rw left at c.put_i16.ensures) (rw right at c.put_i16-2.ensures)
