-- `restricted::journey::judge_packet` meets its contract.
use Rattle.verdict.proofs.Exits.{exit}
use Rattle.restricted.proofs.Journeys.{packet_refused, packet_accepted}
use Rattle.restricted.proofs.journey.judge_packet.Goals as goal

pub returns-in_err-judge_packet : goal.returns-in_err-judge_packet
returns-in_err-judge_packet c = rw (exit c.from_residual.ensures.1) (packet_refused _ _ _ c.in_err-judge_packet.ensures)

pub returns : goal.returns
returns c = packet_accepted _ _ c.in_ok-judge_packet.ensures
