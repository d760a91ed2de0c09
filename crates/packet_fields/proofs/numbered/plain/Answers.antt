-- `packet_fields::numbered::plain` meets its contract.
use Rattle.verdict.proofs.Exits.{exit_numbered}
use Rattle.packet_fields.proofs.Steps.{past, past_off}
use Rattle.packet_fields.proofs.numbered.plain.Goals as goal

pub returns-in_err-next : goal.returns-in_err-next
returns-in_err-next c = rw (exit_numbered c.from_residual.ensures.1) (past_off _ _ c.in_err-next.ensures)

pub returns : goal.returns
returns c = past _ _ c.in_ok-next.ensures
