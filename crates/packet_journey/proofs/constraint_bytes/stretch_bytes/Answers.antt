-- `packet_journey::constraint_bytes::stretch_bytes` meets its contract.
use Rattle.numbers.proofs.Counting.{count_five}
use Rattle.packet_journey.proofs.constraint_bytes.Values.{alone_bytes}
use native.Mathlib.Omega.{arith}
use Rattle.packet_journey.proofs.constraint_bytes.stretch_bytes.Goals as goal

pub overflow_add-result : goal.overflow_add-result
overflow_add-result c = let a = c.args in omega (arith, c.groups.ensures, c.groups-2.ensures, count_five a.start, count_five a.end)

pub returns : goal.returns
returns c =
    let a = c.args in alone_bytes a.start a.end c.groups.ensures c.groups-2.ensures a.range c.if-range-eq-BOTH.false (rw c.most.ensures at c.if-most-start.false) (rw c.most-2.ensures at c.if-most-end.false)
