-- `sheet_write_segment::changes` meets its contract.
use Prim.Native.Nat.{◌-◌}
use Rattle.grammar.specs.segment.Segment.{changes}
use Rattle.grammar.specs.internal.segment.Parts.{start_of}
use Rattle.sheet_write_segment.specs.internal.elements.Writing.{filled}
use Rattle.sheet_write_segment.proofs.elements.Writing.{Along}
use Rattle.sheet_write_segment.proofs.changes.Given as goal

abbrev pub invariant-loop : goal.invariant-loop
invariant-loop l = Along l.packet l.stop (changes (start_of l.part) l.lsp 0 l.count) (changes (start_of l.part) l.lsp l.last (l.count - l.counter)) l.initial.spot.at (filled l.initial.room l.initial.spot.n) l.spot.at (filled l.room l.spot.n)
