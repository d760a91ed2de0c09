-- `packet_journey::constraint_bytes::speed_bytes` meets its contract.
use Prim.Native.Nat.{◌/◌, ◌%◌}
use Rattle.kinds.specs.Kinds.{speed}
use Rattle.packet_journey.proofs.constraint_bytes.Values.{bytes_five, speed_some}
use native.Mathlib.Omega.{arith}
use Rattle.packet_journey.proofs.constraint_bytes.speed_bytes.Goals as goal

pub overflow_add-result : goal.overflow_add-result
overflow_add-result c = omega (arith, c.speed-speed.ensures, bytes_five speed (c.args.t / 8192 % 128))

pub returns : goal.returns
returns c = speed_some c.args.t c.speed-speed.ensures c.requires c.if-t-ne0.false c.if-speed-eq0.false
