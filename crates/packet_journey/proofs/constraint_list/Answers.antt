-- `packet_journey::constraint_list` meets its contract.
use Rattle.format.specs.Format.{times}
use Rattle.format.proofs.Ways.{value_on, value_off}
use Rattle.grammar.specs.journey.Journey.{temporary_constraint}
use Rattle.packet_journey.proofs.constraint_list.Goals as goal

pub returns-in-Err : goal.returns-in-Err
returns-in-Err c = value_off (times temporary_constraint) (rw c.in-Err.is at c.count.ensures)

pub returns : goal.returns
returns c = value_on (times temporary_constraint) (rw c.in-Ok.is at c.count.ensures) c.constraints.ensures
