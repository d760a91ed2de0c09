-- `restricted::accepted::Journey::all_inside` meets its contract.
use Prim.Native.Nat.{◌-◌}
use Rattle.leg_parts.proofs.Reading.{Left}
use Rattle.restricted.specs.internal.Travelled.{ReadsIn}
use Rattle.restricted.proofs.Journeys.{SameInside}
use Rattle.restricted.proofs.accepted.Journey.all_inside.Given as goal

abbrev pub invariant-loop : goal.invariant-loop
invariant-loop l = Left (ReadsIn l.self) l.fn.leg.constraints l.fn.leg.count (SameInside l.lsp) l.at (l.fn.leg.count - l.counter)
