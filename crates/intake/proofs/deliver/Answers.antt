-- `intake::deliver` meets its contract.
use native.Mathlib.Omega.{arith}
use Rattle.intake.proofs.Outcomes.{none_delivered, past_delivered, put_delivered}
use Rattle.intake.proofs.deliver.Goals as goal

pub returns-then-delivery-eq0 : goal.returns-then-delivery-eq0
returns-then-delivery-eq0 c = let a = c.args in none_delivered a.intake a.delivery.now a.room.now (omega arith)

pub returns-then-intake-eq-PASSED : goal.returns-then-intake-eq-PASSED
returns-then-intake-eq-PASSED c = let a = c.args in past_delivered a.intake a.delivery.now a.room.now (omega arith) c.if-intake-eq-PASSED.true c.pass.ensures

pub returns : goal.returns
returns c = let a = c.args in put_delivered a.intake a.delivery.now a.room.now (omega arith) c.if-intake-eq-PASSED.false c.in_room.ensures c.put.ensures
