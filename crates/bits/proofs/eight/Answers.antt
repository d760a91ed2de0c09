-- `bits::eight` meets its contract.
use Rattle.std.proofs.Common.{ℕ, ◌+◌, ◌<◌, length, arith}
use Rattle.bits.proofs.Windows.{field_byte, field_more}
use Rattle.bits.proofs.eight.Goals as goal

pub returns : goal.returns
returns c =
    let a = c.args in
    let s = a.s.now in
    let byte = λ (j : ℕ). (c.type_inv.s j).fits in
    let more = λ (n : ℕ) (h : a.i + n < length s). field_more s a.i n h (byte (a.i + n)) in
    omega (arith, c.from_be_bytes.ensures, field_byte s a.i (omega arith) (byte a.i), more 1 (omega arith), more 2 (omega arith), more 3 (omega arith), more 4 (omega arith), more 5 (omega arith), more 6 (omega arith), more 7 (omega arith))
