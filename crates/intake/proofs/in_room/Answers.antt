-- `intake::in_room` meets its contract.
use borrow.Author.Tests.{ne_eqb}
use Rattle.intake.proofs.in_room.Goals as goal

pub returns-then-intake-eq-JUDGED : goal.returns-then-intake-eq-JUDGED
returns-then-intake-eq-JUDGED c = rw c.if-intake-eq-JUDGED.true

pub returns : goal.returns
returns c = rw (ne_eqb c.args.intake.phase 2 c.if-intake-eq-JUDGED.false)
