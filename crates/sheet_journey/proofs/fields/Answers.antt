-- `sheet_journey::fields` meets its contract.
use Rattle.format.proofs.Ways.{over_on, over_off}
use Rattle.grammar.specs.internal.rows.Rows.{row}
use Rattle.verdict.proofs.Exits.{exit}
use Rattle.sheet_journey.proofs.fields.Goals as goal

pub returns-in_err-next : goal.returns-in_err-next
unfolding row
returns-in_err-next c = rw (exit c.from_residual.ensures.1) (over_off c.in_err-next.ensures)

pub returns : goal.returns
unfolding row
returns c = over_on c.in_ok-next.ensures c.body.ensures
