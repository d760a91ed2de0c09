-- `restricted::accepted::Journey::passed_over` meets its contract.
use Prim.Native.Nat.{◌-◌}
use Rattle.leg_parts.proofs.Reading.{Left}
use Rattle.restricted.specs.internal.Travelled.{ReadsIn}
use Rattle.restricted.proofs.Journeys.{SameOver}
use Rattle.restricted.proofs.accepted.Journey.passed_over.Given as goal

abbrev pub invariant-loop : goal.invariant-loop
invariant-loop l = Left (ReadsIn l.self) l.fn.leg.constraints l.fn.leg.count (SameOver l.train l.lsp l.y l.held l.low) l.at (l.fn.leg.count - l.counter)
