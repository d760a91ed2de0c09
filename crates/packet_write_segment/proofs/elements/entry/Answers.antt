-- `packet_write_segment::elements::entry` meets its contract.
use mathlib.Core.Path.{refl}
use Rattle.packet_write_segment.proofs.elements.Writing.{at_small}
use Rattle.packet_write_segment.proofs.elements.Pieces.{entry_first, entry_second, entry_third, entry_q, entry_class, entry_speed, entry_wrote}
use lib.Dec.{lit<, lit≤}
use native.Mathlib.Omega.{arith}
use Rattle.packet_write_segment.proofs.elements.entry.Goals as goal

pub single-q-requires : goal.single-q-requires
single-q-requires c = entry_first c.requires.0

pub number-a-requires : goal.number-a-requires
number-a-requires c = entry_second c.requires.0 c.single-q.ensures

pub number-v-requires : goal.number-v-requires
number-v-requires c = entry_third c.requires.0 c.single-q.ensures c.number-a.ensures refl

pub overflow_mul-bits-2 : goal.overflow_mul-bits-2
overflow_mul-bits-2 c = omega (arith, entry_q c.requires.0 c.single-q.ensures, entry_class c.requires.0 c.single-q.ensures c.number-a.ensures c.class_place-class.ensures)

pub overflow_add-bits : goal.overflow_add-bits
overflow_add-bits c = omega (arith, entry_q c.requires.0 c.single-q.ensures, entry_class c.requires.0 c.single-q.ensures c.number-a.ensures c.class_place-class.ensures)

pub overflow_add-bits-2 : goal.overflow_add-bits-2
overflow_add-bits-2 c = omega (arith, entry_q c.requires.0 c.single-q.ensures, entry_class c.requires.0 c.single-q.ensures c.number-a.ensures c.class_place-class.ensures, entry_speed c.requires.0 c.single-q.ensures c.number-a.ensures c.class_place-class.ensures c.number-v.ensures c.speed_steps.ensures)

pub put-requires : goal.put-requires
put-requires c = (lit< tt, lit≤ tt, omega (arith, entry_q c.requires.0 c.single-q.ensures, entry_class c.requires.0 c.single-q.ensures c.number-a.ensures c.class_place-class.ensures, entry_speed c.requires.0 c.single-q.ensures c.number-a.ensures c.class_place-class.ensures c.number-v.ensures c.speed_steps.ensures), at_small c.requires.0)

pub returns : goal.returns
returns c =
    entry_wrote c.requires.0 c.single-q.ensures c.number-a.ensures c.class_place-class.ensures c.number-v.ensures c.speed_steps.ensures c.put.ensures
