-- `sheet_journey::segment` meets its contract.
use Rattle.format.proofs.Ways.{over_on, over_off, value_on, value_off}
use Rattle.grammar.specs.internal.rows.Rows.{row}
use Rattle.grammar.specs.journey.Journey.{constraints}
use Rattle.grammar.specs.internal.journey.Parts.{segment_rest}
use Rattle.verdict.proofs.Exits.{exit}
use Rattle.sheet_journey.proofs.segment.Goals as goal

pub returns-in_err-next : goal.returns-in_err-next
unfolding row
returns-in_err-next c = rw (exit c.from_residual.ensures.1) (over_off c.in_err-next.ensures)

pub returns-in_err-count : goal.returns-in_err-count
unfolding row
returns-in_err-count c = rw (exit c.from_residual-in_err-count.ensures.1) (over_on c.in_ok-next.ensures (value_off (segment_rest constraints) c.in_err-count.ensures))

pub returns-in_err-next-2 : goal.returns-in_err-next-2
unfolding row
returns-in_err-next-2 c = rw (exit c.from_residual-in_err-next-2.ensures.1) (over_on c.in_ok-next.ensures (value_on (segment_rest constraints) c.in_ok-count.ensures (over_off c.in_err-next-2.ensures)))

pub returns : goal.returns
unfolding row
returns c = over_on c.in_ok-next.ensures (value_on (segment_rest constraints) c.in_ok-count.ensures (over_on c.in_ok-next-2.ensures c.constraints.ensures))
