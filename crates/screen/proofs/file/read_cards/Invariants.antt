-- `screen::file::read_cards` meets its contract.
use Prim.Native.Nat.{◌-◌}
use Rattle.screen.proofs.file.Numbering.{Reading}
use Rattle.screen.proofs.file.read_cards.Given as goal

abbrev pub invariant-loop-at : goal.invariant-loop-at
invariant-loop-at l = Reading l.s l.k l.at l.values

abbrev pub decreases-loop-at : goal.decreases-loop-at
decreases-loop-at l = 448 - l.k
