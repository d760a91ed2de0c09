-- `packet_write_journey::body` meets its contract.
use lib.Dec.{lit<, lit≤}
use Rattle.packet_write_journey.proofs.Steps.{body_status, body_count, body_segments, body_wrote}
use Rattle.packet_write_journey.proofs.body.Goals as goal

pub number-status-requires : goal.number-status-requires
number-status-requires c = (body_status c.requires, lit≤ tt, lit≤ tt, lit< tt)

pub number-count-requires : goal.number-count-requires
number-count-requires c = (body_count c.requires c.number-status.ensures, lit≤ tt, lit≤ tt, lit< tt)

pub times-requires : goal.times-requires
times-requires c = body_segments c.requires c.number-status.ensures c.number-count.ensures

pub returns : goal.returns
returns c =
    body_wrote c.requires c.number-status.ensures c.number-count.ensures c.times.ensures
