-- `sheet_journey::point::points` meets its contract.
use Rattle.std.proofs.Common.{◌-◌}
use Rattle.format.specs.Format.{times}
use Rattle.format.specs.internal.Ways.{Left}
use Rattle.grammar.specs.journey.Journey.{timing_point}
use Rattle.sheet_fields.specs.internal.Judging.{judge}
use Rattle.sheet_journey.proofs.point.points.Given as goal

abbrev pub invariant-loop : goal.invariant-loop
invariant-loop l = Left (judge l.s) (times timing_point l.count) (times timing_point (l.count - l.counter)) l.fn.spot.at l.fn.spot.n l.spot.at l.spot.n
