-- `packet_journey::point_bytes::latest_bytes` meets its contract.
use native.Mathlib.Omega.{arith}
use Prim.Native.Nat.{◌/◌, ◌%◌}
use Rattle.numbers.proofs.Counting.{count_five}
use Rattle.packet_journey.proofs.point_bytes.latest_bytes.Goals as goal

pub overflow_add-result : goal.overflow_add-result
overflow_add-result c = let t = c.args.t in omega (arith, c.groups.ensures, c.groups-2.ensures, count_five (t / 131072), count_five (t % 131072))
