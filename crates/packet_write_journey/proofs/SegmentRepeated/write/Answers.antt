-- `packet_write_journey::Segment::write` meets its contract.
use lib.Dec.{lit<, lit≤}
use Rattle.packet_write_journey.proofs.Steps.{segment_names, segment_count, segment_points, segment_last, segment_constraints, segment_wrote}
use Rattle.packet_write_journey.proofs.SegmentRepeated.write.Goals as goal

pub names-next-requires : goal.names-next-requires
names-next-requires c = segment_names c.requires

pub number-count-requires : goal.number-count-requires
number-count-requires c = (segment_count c.requires c.names-next.ensures, lit≤ tt, lit≤ tt, lit< tt)

pub times-last-requires : goal.times-last-requires
times-last-requires c = segment_points c.requires c.names-next.ensures c.number-count.ensures

pub number-second-requires : goal.number-second-requires
number-second-requires c =
    (segment_last c.requires c.names-next.ensures c.number-count.ensures c.times-last.ensures, lit≤ tt, lit≤ tt, lit< tt)

pub times-requires : goal.times-requires
times-requires c =
    segment_constraints c.requires c.names-next.ensures c.number-count.ensures c.times-last.ensures c.number-second.ensures

pub returns : goal.returns
returns c =
    segment_wrote c.requires c.names-next.ensures c.number-count.ensures c.times-last.ensures c.number-second.ensures c.times.ensures
