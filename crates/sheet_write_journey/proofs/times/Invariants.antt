-- `sheet_write_journey::times` meets its contract. The loop's invariant: the parts that are left, after the parts that are written.
use Prim.Native.Nat.{◌-◌}
use Rattle.format.specs.Format.{times}
use Rattle.sheet_write_segment.specs.internal.elements.Writing.{filled}
use Rattle.sheet_write_segment.proofs.elements.Writing.{Along}
use Rattle.sheet_write_journey.proofs.times.Given as goal

abbrev pub invariant-loop : goal.invariant-loop
invariant-loop g l = Along l.packet l.stop (times g.P.Repeated.part l.count) (times g.P.Repeated.part (l.count - l.counter)) l.initial.spot.at (filled l.initial.room l.initial.spot.n) l.spot.at (filled l.room l.spot.n)
