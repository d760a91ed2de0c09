-- `packet_segment::element::cut_entry` meets its contract.
use Rattle.kinds.specs.Kinds.{class, speed}
use Rattle.format.specs.Format.{then}
use Rattle.format.proofs.Ways.{over_on, over_off, value_on, value_off}
use Rattle.verdict.proofs.Exits.{exit}
use Rattle.packet_segment.proofs.element.cut_entry.Goals as goal

pub returns-in_err-q : goal.returns-in_err-q
returns-in_err-q c = rw (exit c.from_residual.ensures.1) (value_off (λ q f. then (class q) (then speed f)) (rw c.rule.ensures.kind at c.in_err-q.ensures))

pub returns-in_err-speed : goal.returns-in_err-speed
returns-in_err-speed c =
    rw (exit c.from_residual-in_err-speed.ensures.1)
    (value_on (λ q f. then (class q) (then speed f)) (rw c.rule.ensures.kind at c.in_ok-q.ensures) (over_off (rw c.class_at.ensures at c.in_err-speed.ensures)))

pub returns : goal.returns
returns c =
    value_on (λ q f. then (class q) (then speed f)) (rw c.rule.ensures.kind at c.in_ok-q.ensures)
    (over_on (rw c.class_at.ensures at c.in_ok-speed.ensures) (rw c.rule-2.ensures.kind at c.plain-2.ensures))
