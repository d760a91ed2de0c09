use Rattle.packet_write_segment.proofs.elements.Writing.{next_fits}
use Rattle.packet_write_segment.proofs.row.Whole.{putting_next, putting_more, putting_wrote}
use Rattle.packet_write_segment.proofs.row.row.Goals as goal

pub copy_number-requires : goal.copy_number-requires
copy_number-requires c = next_fits (putting_next c.loop-width.invariant c.loop-width-test.true)

pub loop-width-preserved : goal.loop-width-preserved
loop-width-preserved c = putting_more c.loop-width.invariant c.loop-width-test.true c.copy_number.ensures

pub returns : goal.returns
returns c = putting_wrote c.loop-width.invariant c.loop-width-test.false
