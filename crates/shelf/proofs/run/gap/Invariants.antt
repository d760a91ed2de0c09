-- `shelf::run::gap` meets its contract.
use Prim.Native.Nat.{◌-◌}
use lib.ListN.{length}
use Rattle.shelf.proofs.Entries.{Left}
use Rattle.shelf.proofs.Searching.{Gapped}
use Rattle.shelf.proofs.run.gap.Given as goal

abbrev pub invariant-loop-at : goal.invariant-loop-at
invariant-loop-at l = Left l.run (Gapped l.run l.mine) l.at

abbrev pub decreases-loop-at : goal.decreases-loop-at
decreases-loop-at l = length l.run - l.at
