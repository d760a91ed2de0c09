-- `packet_journey::fields` meets its contract.
use Rattle.format.proofs.Ways.{over_on, over_off}
use Rattle.packet_journey.proofs.Looping.{journey_over}
use Rattle.packet_journey.proofs.fields.Goals as goal

pub returns-in-Err : goal.returns-in-Err
returns-in-Err c = journey_over (over_off (rw c.in-Err.is at c.header.ensures))

pub returns : goal.returns
returns c = journey_over (over_on (rw c.in-Ok.is at c.header.ensures) c.body.ensures)
