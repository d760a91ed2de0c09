-- `restricted::numbered::head` meets its contract.
use Rattle.speed_question.proofs.Lent.{as_packet, as_sheet}
use Rattle.restricted.proofs.numbered.head.Goals as goal

pub head-requires : goal.head-requires
head-requires c = rw (as_packet c.if-medium-eq-PACKET.true) at c.requires

pub returns-then-medium-eq-PACKET : goal.returns-then-medium-eq-PACKET
returns-then-medium-eq-PACKET c = rw (as_packet c.if-medium-eq-PACKET.true) c.head.ensures

pub head-requires-2 : goal.head-requires-2
head-requires-2 c = rw (as_sheet c.if-medium-eq-PACKET.false) at c.requires

pub returns : goal.returns
returns c = rw (as_sheet c.if-medium-eq-PACKET.false) c.head-2.ensures
