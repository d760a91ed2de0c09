-- `numbers::write::groups` meets its contract.
use Rattle.numbers.proofs.Counting.{leading_count, count_zero}
use mathlib.Core.Path.{sym}
use native.Mathlib.Omega.{arith}
use Rattle.numbers.proofs.write.groups.Goals as goal

pub returns-then-v-eq0 : goal.returns-then-v-eq0
returns-then-v-eq0 c = rw c.if-v-eq0.true (sym count_zero)

pub returns-else-v-eq0 : goal.returns-else-v-eq0
returns-else-v-eq0 c = sym (leading_count c.args.v c.if-v-eq0.false (omega arith))
