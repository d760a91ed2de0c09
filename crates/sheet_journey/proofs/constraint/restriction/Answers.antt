-- `sheet_journey::constraint::restriction` meets its contract.
use Rattle.format.proofs.Ways.{over_on, over_off}
use Rattle.verdict.proofs.Exits.{exit}
use Rattle.sheet_journey.proofs.constraint.restriction.Goals as goal

pub returns-in_err-next : goal.returns-in_err-next
returns-in_err-next c = rw (exit c.from_residual.ensures.1) (over_off (rw c.most.ensures at c.in_err-next.ensures))

pub returns-in_err-next-2 : goal.returns-in_err-next-2
returns-in_err-next-2 c = rw (exit c.from_residual-in_err-next-2.ensures.1) (over_on (rw c.most.ensures at c.in_ok-next.ensures) (over_off c.in_err-next-2.ensures))

pub returns-in_err-next-3 : goal.returns-in_err-next-3
returns-in_err-next-3 c = rw (exit c.from_residual-in_err-next-3.ensures.1) (over_on (rw c.most.ensures at c.in_ok-next.ensures) (over_on c.in_ok-next-2.ensures (over_off (rw c.most-2.ensures at c.in_err-next-3.ensures))))

pub returns : goal.returns
returns c = over_on (rw c.most.ensures at c.in_ok-next.ensures) (over_on c.in_ok-next-2.ensures (over_on (rw c.most-2.ensures at c.in_ok-next-3.ensures) c.no_current.ensures))
