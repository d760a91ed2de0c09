-- `sheet_segment::entry` meets its contract.
use Rattle.kinds.specs.Kinds.{class, speed}
use Rattle.format.specs.Format.{then}
use Rattle.format.proofs.Ways.{over_on, over_off, value_on, value_off}
use Rattle.verdict.proofs.Exits.{exit}
use Rattle.sheet_segment.proofs.entry.Goals as goal

pub returns-in_err-q : goal.returns-in_err-q
returns-in_err-q c = rw (exit c.from_residual.ensures.1) (value_off (λ q f. then (class q) (then speed f)) c.in_err-q.ensures)

pub returns-in_err-next : goal.returns-in_err-next
returns-in_err-next c = rw (exit c.from_residual-in_err-next.ensures.1) (value_on (λ q f. then (class q) (then speed f)) c.in_ok-q.ensures (over_off c.in_err-next.ensures))

pub returns : goal.returns
returns c = value_on (λ q f. then (class q) (then speed f)) c.in_ok-q.ensures (over_on c.in_ok-next.ensures c.speed.ensures)
