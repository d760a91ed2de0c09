-- `sheet_segment::entries` meets its contract.
use Rattle.std.proofs.Common.{◌-◌}
use Rattle.format.specs.Format.{times}
use Rattle.format.specs.internal.Ways.{Left}
use Rattle.grammar.specs.segment.Segment.{entries}
use Rattle.grammar.specs.internal.segment.Parts.{entry}
use Rattle.sheet_fields.specs.internal.Judging.{judge}
use Rattle.sheet_segment.proofs.entries.Given as goal

abbrev pub invariant-loop : goal.invariant-loop
invariant-loop l = Left (judge l.s) (entries l.count) (times entry (l.count - l.counter)) l.fn.spot.at l.fn.spot.n l.spot.at l.spot.n
