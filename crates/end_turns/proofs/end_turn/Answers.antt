use Rattle.std.proofs.Common.{arith}
use Rattle.end_turns.proofs.ToEnd.{bytes_frames, within, last_fits, size_most, serves_to_end}
use Rattle.end_turns.proofs.end_turn.Goals as goal

pub slice_bounds-put_last-count : goal.slice_bounds-put_last-count
slice_bounds-put_last-count c =
    let a = c.args in let t = c.arrived-t in
    within a.format a.s a.input.now a.out.now c.requires _ _ _ _ t.ensures (bytes_frames a.format.channels a.input.now c.type_inv.input)

pub slice_bounds-put_last-start : goal.slice_bounds-put_last-start
slice_bounds-put_last-start c =
    let a = c.args in let t = c.arrived-t in
    within a.format a.s a.input.now a.out.now c.requires _ _ _ _ t.ensures (bytes_frames a.format.channels a.input.now c.type_inv.input)

pub put_last-last-requires : goal.put_last-last-requires
put_last-last-requires c =
    let a = c.args in let t = c.arrived-t in
    (c.requires.channels, last_fits a.format a.s a.input.now a.out.now c.requires _ _ _ _ t.ensures (bytes_frames a.format.channels a.input.now c.type_inv.input))

pub overflow_add-result : goal.overflow_add-result
overflow_add-result c =
    let a = c.args in let t = c.arrived-t in let l = c.put_last-last in
    omega (arith, size_most a.format a.s a.input.now a.out.now c.requires _ _ _ _ t.ensures (bytes_frames a.format.channels a.input.now c.type_inv.input) l.result _ l.ensures.0 l.ensures.1)

pub returns : goal.returns
returns c =
    let a = c.args in let t = c.arrived-t in let l = c.put_last-last in
    serves_to_end a.format a.s a.input.now a.out.now c.requires _ _ _ _ t.ensures (bytes_frames a.format.channels a.input.now c.type_inv.input) l.result _ l.ensures.0 l.ensures.1
