-- `sheet_segment::changes` meets its contract.
use Rattle.std.proofs.Common.{◌-◌}
use Rattle.format.specs.internal.Ways.{Left}
use Rattle.grammar.specs.segment.Segment.{changes}
use Rattle.grammar.specs.internal.segment.Parts.{start_of}
use Rattle.sheet_fields.specs.internal.Judging.{judge}
use Rattle.sheet_segment.proofs.changes.Given as goal

abbrev pub invariant-loop : goal.invariant-loop
invariant-loop l = Left (judge l.s) (changes (start_of l.part) l.lsp 0 l.count) (changes (start_of l.part) l.lsp l.last (l.count - l.counter)) l.fn.spot.at l.fn.spot.n l.spot.at l.spot.n
