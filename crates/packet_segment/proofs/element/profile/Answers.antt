-- `packet_segment::element::profile` meets its contract.
use Rattle.grammar.specs.segment.Segment.{entries}
use Rattle.format.proofs.Ways.{part_on, part_off}
use Rattle.packet_segment.proofs.element.profile.Goals as goal

pub returns-in-Err : goal.returns-in-Err
returns-in-Err c = part_off entries (rw c.in-Err.is at c.profile_head.ensures)

pub returns : goal.returns
returns c = part_on entries (rw c.in-Ok.is at c.profile_head.ensures) c.entries.ensures
