-- `packet_segment::element::cut_profile` meets its contract.
use Rattle.format.proofs.Ways.{gave_on, gave_off, gave_took}
use Rattle.verdict.proofs.Exits.{exit}
use Rattle.packet_segment.proofs.element.cut_profile.Goals as goal

pub returns-in_err-front : goal.returns-in_err-front
returns-in_err-front c = rw (exit c.from_residual.ensures.1) (gave_off (rw c.rule.ensures.kind at c.in_err-front.ensures))

pub returns-in_err-count : goal.returns-in_err-count
returns-in_err-count c =
    rw (exit c.from_residual-in_err-count.ensures.1)
    (gave_on (rw c.rule.ensures.kind at c.in_ok-front.ensures) (gave_off (rw c.rule-2.ensures.kind at c.in_err-count.ensures)))

pub returns : goal.returns
returns c =
    gave_on (rw c.rule.ensures.kind at c.in_ok-front.ensures) (gave_on (rw c.rule-2.ensures.kind at c.in_ok-count.ensures) (gave_took c.count.ensures))
