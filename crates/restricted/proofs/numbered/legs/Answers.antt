-- `restricted::numbered::legs` meets its contract.
use Rattle.speed_question.proofs.Lent.{as_packet, as_sheet}
use Rattle.restricted.proofs.Journeys.{packet_taken, sheet_taken, packet_legs, sheet_legs}
use Rattle.restricted.proofs.numbered.legs.Goals as goal

pub legs-requires : goal.legs-requires
legs-requires c = packet_taken c.args.journey.now (rw (as_packet c.if-medium-eq-PACKET.true) at c.requires)

pub returns-then-medium-eq-PACKET : goal.returns-then-medium-eq-PACKET
returns-then-medium-eq-PACKET c = rw (as_packet c.if-medium-eq-PACKET.true) (packet_legs c.args.journey.now c.legs.ensures)

pub legs-requires-2 : goal.legs-requires-2
legs-requires-2 c = sheet_taken c.args.journey.now (rw (as_sheet c.if-medium-eq-PACKET.false) at c.requires)

pub returns : goal.returns
returns c = rw (as_sheet c.if-medium-eq-PACKET.false) (sheet_legs c.args.journey.now (rw (as_sheet c.if-medium-eq-PACKET.false) at c.requires) c.legs-2.ensures)
