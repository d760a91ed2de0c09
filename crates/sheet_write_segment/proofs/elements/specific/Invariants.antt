-- `sheet_write_segment::elements::specific` meets its contract.
use Prim.Native.Nat.{◌-◌}
use Rattle.grammar.specs.segment.Segment.{entries}
use Rattle.sheet_write_segment.specs.internal.elements.Writing.{filled}
use Rattle.sheet_write_segment.proofs.elements.Writing.{Along}
use Rattle.sheet_write_segment.proofs.elements.specific.Given as goal

abbrev pub invariant-loop : goal.invariant-loop
invariant-loop l = Along l.packet l.stop (entries l.count) (entries (l.count - l.counter)) l.at (filled l.initial.room l.n) l.to (filled l.room l.m)
