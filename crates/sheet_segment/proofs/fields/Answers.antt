-- `sheet_segment::fields` meets its contract.
use Rattle.format.proofs.Ways.{over_off}
use Rattle.verdict.proofs.Exits.{exit}
use Rattle.sheet_segment.proofs.fields.Goals as goal

pub returns-in_err-next : goal.returns-in_err-next
returns-in_err-next c = rw (exit c.from_residual.ensures.1) (over_off c.in_err-next.ensures)
