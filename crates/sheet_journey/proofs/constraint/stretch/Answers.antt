-- `sheet_journey::constraint::stretch` meets its contract.
use Rattle.format.specs.Format.{then}
use Rattle.kinds.specs.journey.Kinds.{d_tc_end_location}
use Rattle.format.proofs.Ways.{value_on, value_off}
use Rattle.verdict.proofs.Exits.{exit}
use Rattle.sheet_journey.proofs.constraint.stretch.Goals as goal

pub returns-in_err-start : goal.returns-in_err-start
returns-in_err-start c = rw (exit c.from_residual.ensures.1) (value_off (λ start. then (d_tc_end_location c.args.range start)) (rw c.most-most.ensures at c.in_err-start.ensures))

pub returns : goal.returns
returns c = value_on (λ start. then (d_tc_end_location c.args.range start)) (rw c.most-most.ensures at c.in_ok-start.ensures) c.end.ensures
