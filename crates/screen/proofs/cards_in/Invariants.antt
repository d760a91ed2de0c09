-- `screen::cards_in` meets its contract.
use mathlib.Core.Path.{◌≡◌}
use lib.ListN.{length, take}
use Rattle.screen.specs.File.{cards_from}
use Rattle.screen.proofs.cards_in.Given as goal

abbrev pub invariant-loop-i : goal.invariant-loop-i
invariant-loop-i l = (take l.i l.cards ≡ cards_from l.i 0 l.values) × (length l.cards ≡ 64)
