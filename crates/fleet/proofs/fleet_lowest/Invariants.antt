-- `fleet::fleet_lowest` meets its contract: the loop's state is a function of i alone.
use Rattle.std.proofs.Common.{◌≡◌}
use Rattle.fleet.specs.internal.Turns.{came_to}
use Rattle.fleet.proofs.fleet_lowest.Given as goal

abbrev pub invariant-loop-i : goal.invariant-loop-i
invariant-loop-i l = l.best ≡ came_to l.n l.packet l.cards l.i
