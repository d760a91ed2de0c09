-- `sheet_journey::segments` meets its contract.
use Rattle.std.proofs.Common.{◌-◌}
use Rattle.format.specs.Format.{times}
use Rattle.format.specs.internal.Ways.{Left}
use Rattle.grammar.specs.journey.Journey.{journey_segment, constraints}
use Rattle.sheet_fields.specs.internal.Judging.{judge}
use Rattle.sheet_journey.proofs.segments.Given as goal

abbrev pub invariant-loop : goal.invariant-loop
invariant-loop l = Left (judge l.s) (times (journey_segment constraints) l.count) (times (journey_segment constraints) (l.count - l.counter)) l.fn.spot.at l.fn.spot.n l.spot.at l.spot.n
