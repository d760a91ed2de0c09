-- `packet_segment::lists` meets its contract.
use Rattle.format.proofs.Ways.{over_on, over_off}
use Rattle.packet_segment.proofs.lists.Goals as goal

pub returns-in-Err : goal.returns-in-Err
returns-in-Err c = over_off (rw c.in-Err.is at c.list.ensures)

pub returns-in-Err-list : goal.returns-in-Err-list
returns-in-Err-list c = over_on (rw c.in-Ok.is at c.list.ensures) (over_off (rw c.in-Err-list.is at c.list-2.ensures))

pub returns : goal.returns
returns c = over_on (rw c.in-Ok.is at c.list.ensures) (over_on (rw c.in-Ok-list.is at c.list-2.ensures) c.list-3.ensures)
