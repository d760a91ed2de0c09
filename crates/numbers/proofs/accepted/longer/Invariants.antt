-- `numbers::accepted::longer` meets its contract. The loop's invariant: the rest of the number, after the i groups that are read.
use Prim.Native.Nat.{◌+◌}
use lib.ListN.{get_or}
use Rattle.numbers.proofs.accepted.Groups.{Rest}
use Rattle.numbers.proofs.accepted.longer.Given as goal

abbrev pub invariant-loop-i : goal.invariant-loop-i
invariant-loop-i l = Rest l.s l.from (l.from + l.i) l.value l.scale (get_or l.s (l.from + l.i) 0)
