-- `restricted::numbered::all_inside` meets its contract.
use Prim.Native.Nat.{◌-◌}
use Rattle.leg_parts.proofs.Reading.{Left}
use Rattle.speed_question.specs.internal.Run.{brought_of, ReadsAs}
use Rattle.restricted.proofs.Journeys.{SameInside}
use Rattle.restricted.proofs.numbered.all_inside.Given as goal

abbrev pub invariant-loop : goal.invariant-loop
invariant-loop l = Left (ReadsAs (brought_of l.medium) l.journey) l.fn.leg.constraints l.fn.leg.count (SameInside l.lsp) l.at (l.fn.leg.count - l.counter)
