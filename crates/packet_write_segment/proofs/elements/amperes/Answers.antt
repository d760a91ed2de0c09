-- `packet_write_segment::elements::amperes` meets its contract.
use Rattle.packet_write_segment.proofs.elements.Writing.{at_small}
use Rattle.packet_write_segment.proofs.elements.Pieces.{current_small, current_wrote}
use lib.Dec.{lit<, lit≤}
use Rattle.packet_write_segment.proofs.elements.amperes.Goals as goal

pub put-requires : goal.put-requires
put-requires c =
    (lit< tt, lit≤ tt, current_small c.requires c.number-a.ensures c.current_steps.ensures, at_small c.requires)

pub returns : goal.returns
returns c = current_wrote c.requires c.number-a.ensures c.current_steps.ensures c.put.ensures
