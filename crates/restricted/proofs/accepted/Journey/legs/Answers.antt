-- `restricted::accepted::Journey::legs` meets its contract.
use Rattle.speed_question.specs.Question.{packet, sheet}
use Rattle.restricted.proofs.Journeys.{packet_taken, sheet_taken, packet_legs, sheet_legs, accepted_lem}
use Rattle.restricted.proofs.accepted.Journey.legs.Goals as goal

pub legs-requires : goal.legs-requires
legs-requires c =
    let j = c.args.self.now in
    packet_taken j.bytes.now (accepted_lem packet j.bytes.now (rw c.in-Packet.is at j.accepted))

pub legs-requires-in-Sheet : goal.legs-requires-in-Sheet
legs-requires-in-Sheet c =
    let j = c.args.self.now in
    sheet_taken j.bytes.now (accepted_lem sheet j.bytes.now (rw c.in-Sheet.is at j.accepted))

pub returns-in-Packet : goal.returns-in-Packet
returns-in-Packet c = rw c.in-Packet.is (packet_legs c.args.self.now.bytes.now c.legs.ensures)

pub returns-in-Sheet : goal.returns-in-Sheet
returns-in-Sheet c =
    let j = c.args.self.now in
    rw c.in-Sheet.is (sheet_legs j.bytes.now (accepted_lem sheet j.bytes.now (rw c.in-Sheet.is at j.accepted)) c.legs-in-Sheet.ensures)
