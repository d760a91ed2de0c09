-- `restricted::numbered::constraint` meets its contract.
use Rattle.speed_question.proofs.Lent.{as_packet, as_sheet}
use Rattle.restricted.proofs.numbered.constraint.Goals as goal

pub constraint-requires : goal.constraint-requires
constraint-requires c = rw (as_packet c.if-medium-eq-PACKET.true) at c.requires

pub returns-then-medium-eq-PACKET : goal.returns-then-medium-eq-PACKET
returns-then-medium-eq-PACKET c = rw (as_packet c.if-medium-eq-PACKET.true) c.constraint.ensures

pub constraint-requires-2 : goal.constraint-requires-2
constraint-requires-2 c = rw (as_sheet c.if-medium-eq-PACKET.false) at c.requires

pub returns : goal.returns
returns c = rw (as_sheet c.if-medium-eq-PACKET.false) c.constraint-2.ensures
