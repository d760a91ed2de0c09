-- `packet_journey::constraint_bytes::both_bytes` meets its contract.
use Rattle.numbers.proofs.Counting.{count_five}
use Rattle.packet_journey.proofs.constraint_bytes.Values.{both_bytes_lem}
use native.Mathlib.Omega.{arith}
use Rattle.packet_journey.proofs.constraint_bytes.both_bytes.Goals as goal

pub overflow_add-result : goal.overflow_add-result
overflow_add-result c = let a = c.args in omega (arith, c.groups.ensures, c.groups-2.ensures, count_five a.start, count_five a.end)

pub returns : goal.returns
returns c = both_bytes_lem c.args.start c.args.end c.groups.ensures c.groups-2.ensures c.requires.0 c.requires.1 c.if-end-start.false
