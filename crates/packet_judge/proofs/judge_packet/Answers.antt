-- `packet_judge::judge_packet` meets its contract.
use native.Mathlib.Omega.{arith}
use Rattle.verdict.proofs.frame.Framing.{one_inside}
use Rattle.packet_judge.proofs.Framed.{frame_refused, framed_whole, fields_refused, fields_accepted, padding_refused}
use Rattle.packet_judge.proofs.judge_packet.Goals as goal

pub packet_fields-requires : goal.packet_fields-requires
packet_fields-requires c =
    let w = framed_whole c.args.tree c.args.s.now (rw c.in-Ok.is at c.tree_frame.ensures) in
    (w.placed, omega (arith, w.ends, w.inside))

pub first_one-one-requires : goal.first_one-one-requires
first_one-one-requires c =
    let w = framed_whole c.args.tree c.args.s.now (rw c.in-Ok.is at c.tree_frame.ensures) in
    (w.inside, w.near, w.placed.few)

pub overflow_mul-s : goal.overflow_mul-s
overflow_mul-s c = omega (arith, (framed_whole c.args.tree c.args.s.now (rw c.in-Ok.is at c.tree_frame.ensures)).few)

pub overflow_cast-result : goal.overflow_cast-result
overflow_cast-result c =
    let w = framed_whole c.args.tree c.args.s.now (rw c.in-Ok.is at c.tree_frame.ensures) in
    omega (arith, w.few, one_inside c.args.s.now _ w.inside, c.first_one-one.ensures)

pub returns-in-Err : goal.returns-in-Err
returns-in-Err c = frame_refused c.args.tree c.args.s.now (rw c.in-Err.is at c.tree_frame.ensures)

pub returns-in-Err-packet_fields : goal.returns-in-Err-packet_fields
returns-in-Err-packet_fields c = fields_refused c.args.tree c.args.s.now (rw c.in-Ok.is at c.tree_frame.ensures) (rw c.in-Err-packet_fields.is at c.packet_fields.ensures)

pub returns-then-one-s : goal.returns-then-one-s
returns-then-one-s c = fields_accepted c.args.tree c.args.s.now (rw c.in-Ok.is at c.tree_frame.ensures) (rw c.in-Ok-packet_fields.is at c.packet_fields.ensures) c.first_one-one.ensures c.if-one-s.true

pub returns-else-one-s : goal.returns-else-one-s
returns-else-one-s c = padding_refused c.args.tree c.args.s.now (rw c.in-Ok.is at c.tree_frame.ensures) (rw c.in-Ok-packet_fields.is at c.packet_fields.ensures) c.first_one-one.ensures c.if-one-s.false
