-- `packet_fields::times::times` meets its contract.
use Prim.Native.Nat.{◌-◌}
use Rattle.format.specs.Format.{times}
use Rattle.format.specs.internal.Ways.{Left}
use Rattle.packet_fields.specs.internal.Judging.{judge}
use Rattle.packet_fields.specs.internal.times.Repeat.{Repeat, Judges}
use Rattle.packet_fields.proofs.times.times.Given as goal

abbrev pub invariant-loop : goal.invariant-loop
invariant-loop g l = (r : Repeat) → Judges r (goal.F-pre g l.step) (goal.F-post g l.step) l.fn.spot → Left (judge r.s r.stop) (times r.part l.count) (times r.part (l.count - l.counter)) l.fn.spot.at l.fn.spot.n l.next.at l.next.n
