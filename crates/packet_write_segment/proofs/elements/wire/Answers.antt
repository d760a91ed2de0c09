-- `packet_write_segment::elements::wire` meets its contract.
use mathlib.Core.Path.{refl}
use Rattle.packet_write_segment.proofs.elements.Writing.{at_small}
use Rattle.packet_write_segment.proofs.elements.Pieces.{wire_second, wire_volts, wire_traction, wire_wrote}
use lib.Dec.{lit<, lit≤}
use native.Mathlib.Omega.{arith}
use Rattle.packet_write_segment.proofs.elements.wire.Goals as goal

pub number-n-requires : goal.number-n-requires
number-n-requires c = wire_second c.requires c.number-u.ensures refl

pub overflow_mul-bits : goal.overflow_mul-bits
overflow_mul-bits c =
    omega (arith, wire_volts c.requires c.number-u.ensures c.volts_place.ensures)

pub overflow_add-bits : goal.overflow_add-bits
overflow_add-bits c =
    omega (arith, wire_volts c.requires c.number-u.ensures c.volts_place.ensures, wire_traction c.requires c.number-u.ensures c.volts_place.ensures c.number-n.ensures)

pub put-requires : goal.put-requires
put-requires c =
    (lit< tt, lit≤ tt, omega (arith, wire_volts c.requires c.number-u.ensures c.volts_place.ensures, wire_traction c.requires c.number-u.ensures c.volts_place.ensures c.number-n.ensures), at_small c.requires)

pub returns : goal.returns
returns c =
    wire_wrote c.requires c.number-u.ensures c.volts_place.ensures c.number-n.ensures c.put.ensures
