-- `packet_write_journey::times` meets its contract. The loop's invariant: the parts that are left, after the parts that are written.
use Prim.Native.Nat.{◌-◌}
use Rattle.format.specs.Format.{times}
use Rattle.packet_write_segment.proofs.elements.Writing.{Along}
use Rattle.packet_write_journey.proofs.times.Given as goal

abbrev pub invariant-loop : goal.invariant-loop
invariant-loop g l = Along (times g.P.Repeated.part l.count) (times g.P.Repeated.part (l.count - l.counter)) l.sheet l.initial.room l.initial.p l.room l.p
