-- `packet_segment::head::cut_head` meets its contract.
use Rattle.format.proofs.Ways.{gave_on, gave_off}
use Rattle.verdict.proofs.Exits.{exit}
use Rattle.packet_segment.proofs.head.cut_head.Goals as goal

pub returns-in_err-country : goal.returns-in_err-country
returns-in_err-country c = rw (exit c.from_residual.ensures.1) (gave_off c.in_err-country.ensures)

pub returns : goal.returns
returns c = gave_on c.in_ok-country.ensures c.cut_body.ensures
