-- In the code's order: no bits; a short slice, its field without the last bit, that bit, and both.
use Rattle.std.proofs.Common.{◌+◌, ◌-◌, sym, arith}
use Rattle.bits.proofs.Cells.{whole_part}
use Rattle.bits.proofs.Fields.{field_none, field_small}
use Rattle.bits.proofs.Windows.{field_last}
use Rattle.bits.proofs.+read_field.Goals as goal

pub returns-then-width-eq0 : goal.returns-then-width-eq0
returns-then-width-eq0 t c =
    let a = c.args in
    rw c.if-width-eq0.true (sym (field_none a.s.now a.at))

pub overflow_mul-result : goal.overflow_mul-result
overflow_mul-result t c =
    let a = c.args in
    rw (c.read_field.ensures, whole_part a.s.now) (omega (arith, field_small a.s.now a.at (a.width - 1) 31 (omega arith)))

pub overflow_add-result : goal.overflow_add-result
overflow_add-result t c =
    let a = c.args in
    rw (c.read_field.ensures, whole_part a.s.now, c.bit.ensures) (omega (arith, field_small a.s.now a.at (a.width - 1) 31 (omega arith), field_small a.s.now (a.at + (a.width - 1)) 1 1 (omega arith)))

pub returns-then-s-lt8 : goal.returns-then-s-lt8
returns-then-s-lt8 t c =
    let a = c.args in
    rw (c.read_field.ensures, whole_part a.s.now, c.bit.ensures) (field_last a.s.now a.at a.width (omega arith) (omega arith))
