-- `numbers::write::put_number` meets its contract.
use Rattle.numbers.proofs.write.Writing.{Rest}
use Rattle.numbers.proofs.write.put_number.Given as goal

abbrev pub invariant-loop-x : goal.invariant-loop-x
invariant-loop-x l = Rest l.initial.s l.at l.v l.s l.x l.i

abbrev pub decreases-loop-x : goal.decreases-loop-x
decreases-loop-x l = l.x
