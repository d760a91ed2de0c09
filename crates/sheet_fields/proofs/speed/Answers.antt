-- `sheet_fields::speed` meets its contract.
use Rattle.std.proofs.Common.{refl}
use Rattle.kinds.specs.Kinds.{speed}
use Rattle.fields.proofs.Lawful.{speed_lawful}
use Rattle.verdict.proofs.Exits.{exit}
use Rattle.sheet_fields.proofs.Steps.{plain_off, plain_on, low_none, low_some}
use Rattle.sheet_fields.proofs.speed.Goals as goal

pub returns-in_err-v : goal.returns-in_err-v
returns-in_err-v c = rw (exit c.from_residual.ensures.1) (plain_off (c.in_err-v.ensures _))

pub returns-then-speed_steps-eq-NO_SPEED : goal.returns-then-speed_steps-eq-NO_SPEED
returns-then-speed_steps-eq-NO_SPEED c = plain_off (rw (low_none speed c.speed_steps.ensures speed_lawful c.if-speed_steps-eq-NO_SPEED.true) at (c.in_ok-v.ensures speed refl))

pub returns : goal.returns
returns c = plain_on (rw (low_some speed c.speed_steps.ensures c.if-speed_steps-eq-NO_SPEED.false) at (c.in_ok-v.ensures speed refl))
