-- `fields::size::volts` meets its contract.
use Rattle.std.proofs.Common.{arith, lt-ltb, ne_eqb}
use Rattle.numbers.specs.Numbers.{groups_in}
use Rattle.kinds.specs.Kinds.{m_voltage}
use Rattle.fields.proofs.size.Bytes.{bytes_some, volts_bytes}
use Rattle.fields.proofs.size.volts.Goals as goal

pub returns-in-0 : goal.returns-in-0
unfolding groups_in
returns-in-0 c = rw c.in-0.is

pub returns-in-1 : goal.returns-in-1
unfolding groups_in
returns-in-1 c = rw c.in-1.is

pub returns-in-2-to-5 : goal.returns-in-2-to-5
returns-in-2-to-5 c = let v = c.args.v in bytes_some m_voltage v (lt-ltb v 6 (omega arith)) (rw (ne_eqb v 0 (omega arith), ne_eqb v 1 (omega arith)) at (volts_bytes v (omega arith)))
