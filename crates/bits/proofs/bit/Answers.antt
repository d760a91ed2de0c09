-- `bits::bit` meets its contract.
use Rattle.std.proofs.Common.{◌-◌, ◌*◌, ◌/◌, ◌%◌, arith}
use Rattle.bits.proofs.Windows.{read_window, field_byte}
use Rattle.bits.proofs.bit.Goals as goal

pub returns : goal.returns
returns c =
    let a = c.args in
    let s = a.s.now in
    let byte = field_byte s (a.at / 8) (omega arith) (c.type_inv.s (a.at / 8)).fits in
    rw (c.cut.ensures, c.from.ensures, ← byte) (read_window s (8 * (a.at / 8)) a.at 1 (7 - a.at % 8) 8 (omega arith) (omega arith) (omega arith))
