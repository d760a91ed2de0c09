-- `sheet_journey::constraint::up_to` meets its contract.
use Rattle.verdict.proofs.Exits.{exit}
use Rattle.sheet_fields.proofs.Steps.{plain_on, plain_off}
use Rattle.sheet_journey.proofs.constraint.up_to.Goals as goal

pub returns-in_err-next : goal.returns-in_err-next
returns-in_err-next c = rw (exit c.from_residual.ensures.1) (plain_off c.in_err-next.ensures)

pub returns : goal.returns
returns c = plain_on c.in_ok-next.ensures
