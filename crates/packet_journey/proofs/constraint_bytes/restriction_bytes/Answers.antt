-- `packet_journey::constraint_bytes::restriction_bytes` meets its contract.
use Rattle.packet_journey.proofs.constraint_bytes.Values.{other_some}
use Rattle.packet_journey.proofs.constraint_bytes.restriction_bytes.Goals as goal

pub returns : goal.returns
returns c = let a = c.args in other_some a.t a.of c.if-of-eq-SPEED.false c.if-t-ne-NO_LIMIT.false (rw c.most.ensures at c.if-most-t.false)
