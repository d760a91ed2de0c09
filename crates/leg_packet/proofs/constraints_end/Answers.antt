-- `leg_packet::constraints_end` meets its contract.
use native.Mathlib.Omega.{arith}
use Rattle.leg_packet.proofs.Parts.{constraints_passed}
use Rattle.leg_packet.proofs.constraints_end.Goals as goal

pub returns : goal.returns
returns c = constraints_passed c.args.packet.now c.args.count c.args.at _ (omega arith)
