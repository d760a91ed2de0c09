use Rattle.numbers.proofs.write.Writing.{rest_start, rest_more}
use native.Mathlib.Omega.{arith}
use Rattle.numbers.proofs.write.put_number.Goals as goal

pub loop-x-init : goal.loop-x-init
loop-x-init c = rest_start c.args.s.now c.args.at c.args.v (omega arith)

pub loop-x-preserved : goal.loop-x-preserved
loop-x-preserved c = rest_more c.loop-x.invariant c.loop-x-test.true
