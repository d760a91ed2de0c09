-- `sheet_journey::constraint::constraints` meets its contract.
use Rattle.std.proofs.Common.{◌-◌}
use Rattle.format.specs.Format.{times}
use Rattle.format.specs.internal.Ways.{Left}
use Rattle.grammar.specs.journey.Journey.{temporary_constraint}
use Rattle.sheet_fields.specs.internal.Judging.{judge}
use Rattle.sheet_journey.proofs.constraint.constraints.Given as goal

abbrev pub invariant-loop : goal.invariant-loop
invariant-loop l = Left (judge l.s) (times temporary_constraint l.count) (times temporary_constraint (l.count - l.counter)) l.fn.spot.at l.fn.spot.n l.spot.at l.spot.n
