-- `packet_journey::constraint::restriction` meets its contract.
use Rattle.format.proofs.Ways.{over_on, over_off}
use Rattle.verdict.proofs.Exits.{exit}
use Rattle.packet_journey.proofs.constraint.restriction.Goals as goal

pub returns-in_err-speed : goal.returns-in_err-speed
returns-in_err-speed c = rw (exit c.from_residual.ensures.1) (over_off (rw c.rule.ensures at c.in_err-speed.ensures))

pub returns-in_err-rate : goal.returns-in_err-rate
returns-in_err-rate c =
    rw (exit c.from_residual-in_err-rate.ensures.1)
    (over_on (rw c.rule.ensures at c.in_ok-speed.ensures) (over_off (rw c.rule-2.ensures at c.in_err-rate.ensures)))

pub returns-in_err-current : goal.returns-in_err-current
returns-in_err-current c =
    rw (exit c.from_residual-in_err-current.ensures.1)
    (over_on (rw c.rule.ensures at c.in_ok-speed.ensures) (over_on (rw c.rule-2.ensures at c.in_ok-rate.ensures) (over_off (rw c.rule-3.ensures at c.in_err-current.ensures))))

pub returns : goal.returns
returns c =
    over_on (rw c.rule.ensures at c.in_ok-speed.ensures) (over_on (rw c.rule-2.ensures at c.in_ok-rate.ensures) (over_on (rw c.rule-3.ensures at c.in_ok-current.ensures) c.plain-4.ensures))
