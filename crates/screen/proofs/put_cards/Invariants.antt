-- `screen::put_cards` meets its contract.
use mathlib.Core.Path.{◌≡◌}
use lib.ListN.{length}
use Rattle.text.specs.words.Words.{Laid}
use Rattle.screen.specs.Screen.{lines_after}
use Rattle.screen.proofs.put_cards.Given as goal

abbrev pub invariant-loop-i : goal.invariant-loop-i
invariant-loop-i l = Laid l.initial.room 0 (lines_after l.packet l.cards l.i) l.next l.room × (length l.room ≡ length l.initial.room)
