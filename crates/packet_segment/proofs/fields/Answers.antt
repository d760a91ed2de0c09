-- `packet_segment::fields` meets its contract.
use Rattle.grammar.specs.internal.segment.Parts.{three_lists}
use Rattle.format.proofs.Ways.{part_on, part_off}
use Rattle.packet_segment.proofs.fields.Goals as goal

pub returns-in-Err : goal.returns-in-Err
returns-in-Err c = part_off three_lists (rw c.in-Err.is at c.head.ensures)

pub returns : goal.returns
returns c = part_on three_lists (rw c.in-Ok.is at c.head.ensures) c.lists.ensures
