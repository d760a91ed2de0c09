-- `speed_sheet::numbers_end` meets its contract.
use Prim.Native.Nat.{◌-◌}
use lib.ListN.{length}
use Rattle.speed_sheet.proofs.Amid.{Amid}
use Rattle.speed_sheet.proofs.numbers_end.Given as goal

abbrev pub invariant-loop-ended : goal.invariant-loop-ended
invariant-loop-ended l = Amid l.s l.at l.count l.ended l.to

abbrev pub decreases-loop-ended : goal.decreases-loop-ended
decreases-loop-ended l = length l.s - l.to
