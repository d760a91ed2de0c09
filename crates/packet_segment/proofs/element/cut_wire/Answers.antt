-- `packet_segment::element::cut_wire` meets its contract.
use Rattle.kinds.specs.Kinds.{nid_c_traction}
use Rattle.format.specs.Format.{then}
use Rattle.format.proofs.Ways.{value_on, value_off}
use Rattle.verdict.proofs.Exits.{exit}
use Rattle.packet_segment.proofs.element.cut_wire.Goals as goal

pub returns-in_err-u : goal.returns-in_err-u
returns-in_err-u c = rw (exit c.from_residual.ensures.1) (value_off (λ u f. then (nid_c_traction u) f) (rw c.rule.ensures.kind at c.in_err-u.ensures))

pub returns : goal.returns
returns c = value_on (λ u f. then (nid_c_traction u) f) (rw c.rule.ensures.kind at c.in_ok-u.ensures) (rw c.rule-2.ensures at c.plain.ensures)
