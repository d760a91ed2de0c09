-- `sheet_fields::current` meets its contract.
use Rattle.std.proofs.Common.{refl}
use Rattle.kinds.specs.Kinds.{m_current}
use Rattle.fields.proofs.Lawful.{current_lawful}
use Rattle.verdict.proofs.Exits.{exit}
use Rattle.sheet_fields.proofs.Steps.{plain_off, plain_on, low_none, low_some}
use Rattle.sheet_fields.proofs.current.Goals as goal

pub returns-in_err-v : goal.returns-in_err-v
returns-in_err-v c = rw (exit c.from_residual.ensures.1) (plain_off (c.in_err-v.ensures _))

pub returns-then-current_steps-eq-NO_CURRENT : goal.returns-then-current_steps-eq-NO_CURRENT
returns-then-current_steps-eq-NO_CURRENT c = plain_off (rw (low_none m_current c.current_steps.ensures current_lawful c.if-current_steps-eq-NO_CURRENT.true) at (c.in_ok-v.ensures m_current refl))

pub returns : goal.returns
returns c = plain_on (rw (low_some m_current c.current_steps.ensures c.if-current_steps-eq-NO_CURRENT.false) at (c.in_ok-v.ensures m_current refl))
