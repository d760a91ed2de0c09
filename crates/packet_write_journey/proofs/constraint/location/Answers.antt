-- `packet_write_journey::constraint::location` meets its contract.
use lib.Dec.{lit<, lit≤}
use Rattle.packet_write_segment.proofs.elements.Writing.{at_small}
use Rattle.packet_write_journey.proofs.constraint.Steps.{range_there, start_there, location_small, end_fits, begun}
use native.Mathlib.Omega.{arith}
use Rattle.packet_write_journey.proofs.constraint.location.Goals as goal

pub number-range-requires : goal.number-range-requires
number-range-requires c =
    let h = c.requires in
    let t = c.number-of.ensures in
    range_there h t

pub number-start-requires : goal.number-start-requires
number-start-requires c =
    let h = c.requires in
    let t = c.number-of.ensures in
    let g = c.number-range.ensures in
    start_there h t g

pub overflow_add-bits-2 : goal.overflow_add-bits-2
overflow_add-bits-2 c = omega (arith, location_small c.requires c.number-of.ensures c.number-range.ensures c.number-start.ensures)

pub put-next-requires : goal.put-next-requires
put-next-requires c =
    (lit< tt, lit≤ tt, omega (arith, location_small c.requires c.number-of.ensures c.number-range.ensures c.number-start.ensures), at_small c.requires)

pub copy_number-end-requires : goal.copy_number-end-requires
copy_number-end-requires c = end_fits c.requires c.number-of.ensures c.number-range.ensures c.number-start.ensures c.put-next.ensures

pub returns : goal.returns
returns c = begun c.requires c.number-of.ensures c.number-range.ensures c.number-start.ensures c.put-next.ensures c.copy_number-end.ensures
