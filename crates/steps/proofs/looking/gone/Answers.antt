-- `steps::looking::gone` meets its contract.
use native.Mathlib.Omega.{arith}
use Rattle.steps.proofs.Places.{gone_more}
use Rattle.steps.proofs.looking.gone.Goals as goal

pub loop-i-preserved : goal.loop-i-preserved
loop-i-preserved c = gone_more c.loop-i.i c.args.y c.args.spans.now c.loop-i.invariant c.if-y-spans.false

pub returns : goal.returns
returns c = (omega arith, λ j h. c.loop-i.invariant j (omega (arith, c.loop-i-test.false)))
