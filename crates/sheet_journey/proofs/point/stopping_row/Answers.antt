-- `sheet_journey::point::stopping_row` meets its contract.
use lib.ListN.{drop}
use Rattle.format.proofs.Ways.{over_on, over_off}
use Rattle.grammar.specs.internal.rows.Rows.{row}
use Rattle.grammar.specs.internal.journey.Parts.{stopping_widths, stopping_most}
use Rattle.verdict.proofs.Exits.{exit}
use Rattle.sheet_journey.proofs.point.stopping_row.Goals as goal

pub returns-in_err-next : goal.returns-in_err-next
unfolding row
returns-in_err-next c = rw (exit c.from_residual.ensures.1) (over_off {q = (λ f. row (drop 5 stopping_widths) (drop 5 (stopping_most c.args.stop_skip_passes)) f)} (rw (c.stopping_widths-widths.ensures, c.stopping_most-most.ensures) at c.in_err-next.ensures))

pub returns : goal.returns
unfolding row
returns c = over_on {q = (λ f. row (drop 5 stopping_widths) (drop 5 (stopping_most c.args.stop_skip_passes)) f)} (rw (c.stopping_widths-widths.ensures, c.stopping_most-most.ensures) at c.in_ok-next.ensures) (rw (c.stopping_widths-widths.ensures, c.stopping_most-most.ensures) at c.row-2.ensures)
