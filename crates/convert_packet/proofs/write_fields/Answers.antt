-- `convert_packet::write_fields` meets its contract.
use Rattle.convert_packet.proofs.write_fields.Goals as goal

pub write_fields-requires : goal.write_fields-requires
write_fields-requires c = (rw c.in-Segment.is at c.requires.0, c.requires.1)

pub write_journey-requires : goal.write_journey-requires
write_journey-requires c = (rw c.in-Journey.is at c.requires.0, c.requires.1)

pub returns-in-Segment : goal.returns-in-Segment
returns-in-Segment c = rw c.in-Segment.is c.write_fields.ensures

pub returns-in-Journey : goal.returns-in-Journey
returns-in-Journey c = rw c.in-Journey.is c.write_journey.ensures
