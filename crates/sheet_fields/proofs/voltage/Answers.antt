-- `sheet_fields::voltage` meets its contract.
use Rattle.std.proofs.Common.{refl}
use Rattle.kinds.specs.Kinds.{m_voltage}
use Rattle.fields.proofs.Lawful.{voltage_lawful}
use Rattle.verdict.proofs.Exits.{exit}
use Rattle.sheet_fields.proofs.Steps.{low_none, low_some}
use Rattle.sheet_fields.proofs.voltage.Goals as goal

pub returns-in_err-v : goal.returns-in_err-v
returns-in_err-v c = rw (exit c.from_residual.ensures.1) (c.in_err-v.ensures _)

pub returns-then-place-eq-NO_VOLTAGE : goal.returns-then-place-eq-NO_VOLTAGE
returns-then-place-eq-NO_VOLTAGE c = rw (low_none m_voltage c.volts_place-place.ensures voltage_lawful c.if-place-eq-NO_VOLTAGE.true) at (c.in_ok-v.ensures m_voltage refl)

pub returns : goal.returns
returns c = rw (low_some m_voltage c.volts_place-place.ensures c.if-place-eq-NO_VOLTAGE.false) at (c.in_ok-v.ensures m_voltage refl)
