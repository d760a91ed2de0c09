-- `packet_write_journey::constraint::constraint` meets its contract.
use Rattle.packet_write_journey.proofs.constraint.Steps.{restriction_ready, constraint_wrote}
use Rattle.packet_write_journey.proofs.constraint.constraint.Goals as goal

pub restriction-requires : goal.restriction-requires
restriction-requires c = restriction_ready c.requires c.location-first.ensures

pub returns : goal.returns
returns c = constraint_wrote c.requires c.location-first.ensures c.restriction.ensures
