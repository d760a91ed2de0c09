-- `packet_segment::changes` meets its contract.
use Prim.Native.Nat.{◌-◌}
use Rattle.grammar.specs.segment.Segment.{changes}
use Rattle.grammar.specs.internal.segment.Parts.{start_of}
use Rattle.format.specs.internal.Ways.{Left}
use Rattle.packet_fields.specs.internal.Judging.{judge}
use Rattle.packet_segment.proofs.changes.Given as goal

abbrev pub invariant-loop : goal.invariant-loop
invariant-loop l = Left (judge l.s l.stop) (changes (start_of l.part) l.lsp 0 l.count) (changes (start_of l.part) l.lsp l.last (l.count - l.counter)) l.fn.spot.at l.fn.spot.n l.next.at l.next.n
