-- `steps::looking::stretch_from` meets its contract.
use lib.ListN.{length}
use Rattle.steps.proofs.Places.{Stretching}
use Rattle.steps.proofs.looking.stretch_from.Given as goal

abbrev pub invariant-loop-i : goal.invariant-loop-i
invariant-loop-i l = Stretching (length l.spans) l.spans l.y l.end l.i l.low l.until
