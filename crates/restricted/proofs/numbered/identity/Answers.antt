-- `restricted::numbered::identity` meets its contract.
use Rattle.speed_question.proofs.Lent.{as_packet, as_sheet}
use Rattle.restricted.proofs.numbered.identity.Goals as goal

pub identity-requires : goal.identity-requires
identity-requires c = rw (as_packet c.if-medium-eq-PACKET.true) at c.requires

pub returns-then-medium-eq-PACKET : goal.returns-then-medium-eq-PACKET
returns-then-medium-eq-PACKET c = rw (as_packet c.if-medium-eq-PACKET.true) c.identity.ensures

pub identity-requires-2 : goal.identity-requires-2
identity-requires-2 c = rw (as_sheet c.if-medium-eq-PACKET.false) at c.requires

pub returns : goal.returns
returns c = rw (as_sheet c.if-medium-eq-PACKET.false) c.identity-2.ensures
