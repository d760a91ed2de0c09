-- `packet_segment::element::whole_entries` meets its contract.
use Prim.Native.Nat.{◌*◌, ◌-◌, ◌≤◌}
use Rattle.format.specs.Format.{times}
use Rattle.format.specs.internal.Ways.{Left}
use Rattle.grammar.specs.internal.segment.Parts.{entry}
use Rattle.packet_fields.specs.internal.Judging.{judge}
use Rattle.packet_segment.proofs.element.whole_entries.Given as goal

abbrev pub invariant-loop : goal.invariant-loop
invariant-loop l = Left (judge l.s l.stop) (times entry l.count) (times entry (l.count - l.counter)) l.fn.spot.at l.fn.spot.n l.next.at l.next.n × (13 * (l.count - l.counter) ≤ l.stop - l.next.at)
