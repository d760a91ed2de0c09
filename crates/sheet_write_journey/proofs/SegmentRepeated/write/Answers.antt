-- `sheet_write_journey::Segment::write` meets its contract.
use Rattle.sheet_write_journey.proofs.Lists.{start_row, points_writable, count_read, count_fits, constraints_writable, segment_wrote}
use Rattle.sheet_write_journey.proofs.SegmentRepeated.write.Goals as goal

pub start-counted-requires : goal.start-counted-requires
start-counted-requires c = start_row _ _ _ c.requires

pub times-last-requires : goal.times-last-requires
times-last-requires c = points_writable _ _ _ c.requires c.start-counted.ensures.0 c.start-counted.ensures.1

pub read_window-v-requires : goal.read_window-v-requires
read_window-v-requires c =
    count_read _ _ _ c.requires c.start-counted.ensures.0 c.start-counted.ensures.1 c.times-last.ensures

pub one-n-requires : goal.one-n-requires
one-n-requires c =
    count_fits _ _ _ c.requires c.start-counted.ensures.0 c.start-counted.ensures.1 c.times-last.ensures c.read_window-v.ensures

pub times-requires : goal.times-requires
times-requires c =
    constraints_writable _ _ _ c.requires c.start-counted.ensures.0 c.start-counted.ensures.1 c.times-last.ensures c.read_window-v.ensures c.one-n.ensures

pub returns : goal.returns
returns c =
    segment_wrote _ _ _ c.requires c.start-counted.ensures.0 c.start-counted.ensures.1 c.times-last.ensures c.read_window-v.ensures c.one-n.ensures c.times.ensures
