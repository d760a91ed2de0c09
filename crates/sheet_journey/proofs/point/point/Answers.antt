-- `sheet_journey::point::point` meets its contract.
use Rattle.format.proofs.Ways.{over_on, over_off, value_on, value_off}
use Rattle.grammar.specs.internal.rows.Rows.{row}
use Rattle.grammar.specs.internal.journey.Parts.{stopping_widths, stopping_most}
use Rattle.verdict.proofs.Exits.{exit}
use Rattle.sheet_journey.proofs.point.point.Goals as goal

pub returns-in_err-next : goal.returns-in_err-next
unfolding row
returns-in_err-next c = rw (exit c.from_residual.ensures.1) (over_off c.in_err-next.ensures)

pub returns-in_err-stop_skip_passes : goal.returns-in_err-stop_skip_passes
unfolding row
returns-in_err-stop_skip_passes c = rw (exit c.from_residual-in_err-stop_skip_passes.ensures.1) (over_on c.in_ok-next.ensures (value_off (λ m. row stopping_widths (stopping_most m)) c.in_err-stop_skip_passes.ensures))

pub returns : goal.returns
unfolding row
returns c = over_on c.in_ok-next.ensures (value_on (λ m. row stopping_widths (stopping_most m)) c.in_ok-stop_skip_passes.ensures c.stopping_row.ensures)
