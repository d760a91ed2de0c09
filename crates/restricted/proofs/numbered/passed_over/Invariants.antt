-- `restricted::numbered::passed_over` meets its contract.
use Prim.Native.Nat.{◌-◌}
use Rattle.leg_parts.proofs.Reading.{Left}
use Rattle.speed_question.specs.internal.Run.{brought_of, ReadsAs}
use Rattle.restricted.proofs.Journeys.{SameOver}
use Rattle.restricted.proofs.numbered.passed_over.Given as goal

abbrev pub invariant-loop : goal.invariant-loop
invariant-loop l = Left (ReadsAs (brought_of l.medium) l.journey) l.fn.leg.constraints l.fn.leg.count (SameOver l.train l.lsp l.y l.held l.low) l.at (l.fn.leg.count - l.counter)
