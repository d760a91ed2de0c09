-- `packet_write_segment::elements::entries` meets its contract. The loop's invariant: what is left of the entries, after those that are put.
use Prim.Native.Nat.{◌-◌}
use Rattle.grammar.specs.segment.Segment.{entries}
use Rattle.packet_write_segment.proofs.elements.Writing.{Along}
use Rattle.packet_write_segment.proofs.elements.entries.Given as goal

abbrev pub invariant-loop : goal.invariant-loop
invariant-loop l = Along (entries l.count) (entries (l.count - l.counter)) l.sheet l.initial.room l.initial.p l.room l.p
