-- `packet_fields::plain` meets its contract.
use Rattle.packet_fields.proofs.Steps.{past, past_off}
use Rattle.packet_fields.proofs.plain.Goals as goal

pub returns-in-Err : goal.returns-in-Err
returns-in-Err c = past_off _ _ (rw c.in-Err.is at c.field.ensures)

pub returns : goal.returns
returns c = past _ _ (rw c.in-Ok.is at c.field.ensures)
