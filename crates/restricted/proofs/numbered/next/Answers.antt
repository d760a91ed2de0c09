-- `restricted::numbered::next` meets its contract.
use Rattle.speed_question.proofs.Lent.{as_packet, as_sheet}
use Rattle.restricted.proofs.numbered.next.Goals as goal

pub constraints_end-requires : goal.constraints_end-requires
constraints_end-requires c = rw (as_packet c.if-medium-eq-PACKET.true) at c.requires.0

pub returns-then-medium-eq-PACKET : goal.returns-then-medium-eq-PACKET
returns-then-medium-eq-PACKET c = rw (as_packet c.if-medium-eq-PACKET.true) c.constraints_end.ensures

pub constraints_end-requires-2 : goal.constraints_end-requires-2
constraints_end-requires-2 c = let h = c.requires in (rw (as_sheet c.if-medium-eq-PACKET.false) at h.0, h.1)

pub returns : goal.returns
returns c = rw (as_sheet c.if-medium-eq-PACKET.false) c.constraints_end-2.ensures
