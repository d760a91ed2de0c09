-- `packet_segment::head::cut_offsets` meets its contract.
use Rattle.packet_segment.proofs.head.cut_offsets.Goals as goal

pub returns : goal.returns
returns c = rw (c.offset_widths-widths.ensures, c.offset_most-most.ensures) at c.row.ensures
