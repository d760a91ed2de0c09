-- `sheet_journey::constraint::constraint` meets its contract.
use Rattle.format.proofs.Ways.{over_on, over_off, value_on, value_off}
use Rattle.grammar.specs.internal.journey.Parts.{after_type, after_range}
use Rattle.verdict.proofs.Exits.{exit}
use Rattle.sheet_journey.proofs.constraint.constraint.Goals as goal

pub returns-in_err-of : goal.returns-in_err-of
returns-in_err-of c = rw (exit c.from_residual.ensures.1) (value_off after_type c.in_err-of.ensures)

pub returns-in_err-range : goal.returns-in_err-range
returns-in_err-range c = rw (exit c.from_residual-in_err-range.ensures.1) (value_on after_type c.in_ok-of.ensures (value_off (after_range c.in_ok-of.of) c.in_err-range.ensures))

pub returns-in_err-next : goal.returns-in_err-next
returns-in_err-next c = rw (exit c.from_residual-in_err-next.ensures.1) (value_on after_type c.in_ok-of.ensures (value_on (after_range c.in_ok-of.of) c.in_ok-range.ensures (over_off c.in_err-next.ensures)))

pub returns : goal.returns
returns c = value_on after_type c.in_ok-of.ensures (value_on (after_range c.in_ok-of.of) c.in_ok-range.ensures (over_on c.in_ok-next.ensures c.restriction.ensures))
