-- `intake::complete` meets its contract.
use native.Mathlib.Omega.{arith}
use Rattle.intake.proofs.Outcomes.{past_completed, judged_completed}
use Rattle.intake.proofs.complete.Goals as goal

pub returns-then-intake-ne-PASSED : goal.returns-then-intake-ne-PASSED
returns-then-intake-ne-PASSED c = let a = c.args in judged_completed a.intake a.room.now c.if-intake-ne-PASSED.true c.in_room.ensures c.verdict.ensures

pub returns : goal.returns
returns c = let a = c.args in past_completed a.intake a.room.now (omega arith) c.judge.ensures
