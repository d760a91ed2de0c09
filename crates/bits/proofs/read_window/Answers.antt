-- `bits::read_window` meets its contract.
use Rattle.std.proofs.Common.{◌-◌, ◌*◌, arith}
use Rattle.bits.proofs.Windows.{read_window}
use Rattle.bits.proofs.read_window.Goals as goal

pub returns : goal.returns
returns c =
    let a = c.args in
    let p = 8 * c.min-i.result in
    rw (c.cut.ensures, c.eight.ensures)
    (read_window a.s.now p a.at a.width (64 - (a.at - p) - a.width) 64 (omega arith) (omega arith) (omega arith))
