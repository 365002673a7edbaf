use Rattle.end_turns.proofs.ToEnd.{bytes_frames, nothing_arrives, some_arrives}
use Rattle.end_turns.proofs.arrived.Goals as goal

pub returns-then-input-eq0 : goal.returns-then-input-eq0
returns-then-input-eq0 c = nothing_arrives c.args.format c.args.s c.args.input.now c.args.out.now c.if-input-eq0.true

pub stage_turn-requires : goal.stage_turn-requires
stage_turn-requires c = (
  some_arrives c.args.format c.args.s c.args.input.now c.args.out.now c.requires c.if-input-eq0.false,
  bytes_frames c.args.format.channels c.args.input.now c.type_inv.input,
)
