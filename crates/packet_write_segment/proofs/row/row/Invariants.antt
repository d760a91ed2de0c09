-- `packet_write_segment::row::row` meets its contract. The loop's invariant: the fields so far are put.
use Rattle.packet_write_segment.proofs.row.Whole.{Putting}
use Rattle.packet_write_segment.proofs.row.row.Given as goal

abbrev pub invariant-loop-width : goal.invariant-loop-width
invariant-loop-width l = Putting l.widths l.most l.sheet l.initial.room l.initial.p l.width-index l.room l.p
