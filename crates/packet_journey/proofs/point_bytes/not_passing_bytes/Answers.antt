-- `packet_journey::point_bytes::not_passing_bytes` meets its contract.
use native.Mathlib.Omega.{arith}
use Prim.Native.Nat.{◌/◌, ◌%◌}
use Rattle.numbers.proofs.Counting.{count_five}
use Rattle.packet_journey.proofs.point_bytes.Values.{not_passing_some}
use Rattle.packet_journey.proofs.point_bytes.not_passing_bytes.Goals as goal

pub overflow_add-result : goal.overflow_add-result
overflow_add-result c = let a = c.args in omega (arith, c.groups-date.ensures, c.groups.ensures, count_five (a.doors % 32768), count_five (a.leaving / 2048))

pub overflow_add-result-2 : goal.overflow_add-result-2
overflow_add-result-2 c = let a = c.args in omega (arith, c.groups-date.ensures, c.groups.ensures, c.short.ensures, count_five (a.doors % 32768), count_five (a.leaving / 2048), count_five (a.leaving / 2 % 1024))

pub overflow_add-result-3 : goal.overflow_add-result-3
overflow_add-result-3 c = let a = c.args in omega (arith, c.groups-date.ensures, c.groups.ensures, c.short.ensures, count_five (a.doors % 32768), count_five (a.leaving / 2048), count_five (a.leaving / 2 % 1024))

pub returns : goal.returns
returns c = not_passing_some c.args.doors c.args.leaving c.requires c.if-seconds-gt-LARGEST.false c.groups-date.ensures c.groups.ensures c.short.ensures
