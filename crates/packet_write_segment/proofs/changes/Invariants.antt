-- `packet_write_segment::changes` meets its contract. The loop's invariant: what is left of the changes, after those that are put.
use Prim.Native.Nat.{◌-◌}
use Rattle.grammar.specs.segment.Segment.{changes}
use Rattle.grammar.specs.internal.segment.Parts.{start_of}
use Rattle.packet_write_segment.proofs.elements.Writing.{Along}
use Rattle.packet_write_segment.proofs.changes.Given as goal

abbrev pub invariant-loop : goal.invariant-loop
invariant-loop l = Along (changes (start_of l.part) l.lsp 0 l.count) (changes (start_of l.part) l.lsp l.last (l.count - l.counter)) l.sheet l.initial.room l.initial.p l.room l.p
