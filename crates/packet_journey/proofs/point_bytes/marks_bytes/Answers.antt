-- `packet_journey::point_bytes::marks_bytes` meets its contract.
use native.Mathlib.Omega.{arith}
use Prim.Native.Nat.{◌/◌}
use Rattle.numbers.proofs.Counting.{count_five}
use Rattle.packet_journey.proofs.point_bytes.Values.{marks_some}
use Rattle.packet_journey.proofs.point_bytes.marks_bytes.Goals as goal

pub overflow_add-result : goal.overflow_add-result
overflow_add-result c = omega (arith, c.short.ensures, count_five (c.args.t / 128))

pub returns : goal.returns
returns c = marks_some c.args.t c.requires c.if-t-gt-LARGEST.false c.if-t-gt-LARGEST-2.false c.if-t-gt-LARGEST-3.false c.short.ensures
