-- `sheet_segment::wire` meets its contract.
use Rattle.kinds.specs.Kinds.{nid_c_traction}
use Rattle.format.specs.Format.{then}
use Rattle.format.proofs.Ways.{value_on, value_off}
use Rattle.verdict.proofs.Exits.{exit}
use Rattle.sheet_fields.proofs.Steps.{plain_on, plain_off}
use Rattle.sheet_segment.proofs.wire.Goals as goal

pub returns-in_err-u : goal.returns-in_err-u
returns-in_err-u c = rw (exit c.from_residual.ensures.1) (value_off (λ u f. then (nid_c_traction u) f) c.in_err-u.ensures)

pub returns-in_err-next : goal.returns-in_err-next
returns-in_err-next c = rw (exit c.from_residual-in_err-next.ensures.1) (value_on (λ u f. then (nid_c_traction u) f) c.in_ok-u.ensures (plain_off (rw c.most-most.ensures at c.in_err-next.ensures)))

pub returns : goal.returns
returns c = value_on (λ u f. then (nid_c_traction u) f) c.in_ok-u.ensures (plain_on (rw c.most-most.ensures at c.in_ok-next.ensures))
