-- `restricted::numbered::judge` meets its contract.
use Rattle.verdict.proofs.Exits.{exit}
use Rattle.speed_question.proofs.Lent.{as_packet, as_sheet}
use Rattle.restricted.proofs.Journeys.{packet_refused, packet_accepted, sheet_refused, sheet_accepted}
use Rattle.restricted.proofs.numbered.judge.Goals as goal

pub returns-in_err-judge_packet : goal.returns-in_err-judge_packet
returns-in_err-judge_packet c =
    rw (as_packet c.if-medium-eq-PACKET.true, exit c.from_residual.ensures.1) (packet_refused _ _ _ c.in_err-judge_packet.ensures)

pub returns-then-medium-eq-PACKET : goal.returns-then-medium-eq-PACKET
returns-then-medium-eq-PACKET c = rw (as_packet c.if-medium-eq-PACKET.true) (packet_accepted _ _ c.in_ok-judge_packet.ensures)

pub returns-in_err-counted : goal.returns-in_err-counted
returns-in_err-counted c =
    rw (as_sheet c.if-medium-eq-PACKET.false, exit c.from_residual-in_err-counted.ensures.1) (sheet_refused _ _ _ c.in_err-counted.ensures)

pub returns : goal.returns
returns c = rw (as_sheet c.if-medium-eq-PACKET.false) (sheet_accepted _ _ c.in_ok-counted.ensures)
