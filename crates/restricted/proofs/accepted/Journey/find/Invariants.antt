-- `restricted::accepted::Journey::find` meets its contract.
use lib.ListN.{drop}
use Rattle.leg_parts.specs.internal.Reading.{LegsAt}
use Rattle.restricted.specs.internal.Travelled.{ReadsIn, legs_of}
use Rattle.restricted.proofs.accepted.Journey.find.Given as goal

abbrev pub invariant-loop : goal.invariant-loop
invariant-loop l = LegsAt (ReadsIn l.self) l.at (drop l.counter (legs_of l.self))
