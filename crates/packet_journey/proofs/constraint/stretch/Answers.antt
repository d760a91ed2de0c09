-- `packet_journey::constraint::stretch` meets its contract.
use Rattle.format.proofs.Ways.{value_on, value_off}
use Rattle.verdict.proofs.Exits.{exit}
use Rattle.packet_journey.proofs.constraint.Parts.{after_start}
use Rattle.packet_journey.proofs.constraint.stretch.Goals as goal

pub returns-in_err-start : goal.returns-in_err-start
returns-in_err-start c = rw (exit c.from_residual.ensures.1) (value_off (after_start c.args.range) (rw c.rule.ensures at c.in_err-start.ensures))

pub returns : goal.returns
returns c = value_on (after_start c.args.range) (rw c.rule.ensures at c.in_ok-start.ensures) (rw c.rule-2.ensures at c.plain.ensures)
