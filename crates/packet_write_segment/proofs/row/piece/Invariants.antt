-- `packet_write_segment::row::piece` meets its contract. The loop's invariant: the fields so far are gathered.
use Rattle.packet_write_segment.specs.internal.row.Pieces as pieces
use Rattle.packet_write_segment.proofs.row.Pieces.{Gathers}
use Rattle.packet_write_segment.proofs.row.piece.Given as goal

abbrev pub invariant-loop-width : goal.invariant-loop-width
invariant-loop-width l = Gathers l.part (pieces.part l.most l.first l.end) l.sheet l.room l.p l.total l.width-index l.from l.bits
