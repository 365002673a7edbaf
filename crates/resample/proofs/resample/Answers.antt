-- What the loop promises is what the block promises. Assumes nothing.
use Rattle.resample.proofs.Blocks.{loop_ready, past_ready, block_done}
use Rattle.resample.proofs.resample.Goals as goal

pub run-d-requires : goal.run-d-requires
run-d-requires g c = rw (← c.first_position-num.ensures) at (loop_ready g.row.C _ _ _ _ _ c.requires)

pub past-requires : goal.past-requires
past-requires g c =
    past_ready g.row.C _ _ _ _ _ c.requires _ _ (rw c.first_position-num.ensures at c.run-d.ensures)
    (rw c.first_position-num.ensures at c.first_position-num.type_inv)

pub returns : goal.returns
returns g c =
    block_done g.row.C _ _ _ _ _ c.requires _ _ (rw c.first_position-num.ensures at c.run-d.ensures) _ _ c.newest.ensures c.past.ensures
