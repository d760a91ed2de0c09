-- `sheet_fields::single` meets its contract.
use Rattle.std.proofs.Common.{ℕ, get_or, arith}
use Rattle.numbers.proofs.Reading.{found_last}
use Rattle.kinds.specs.Kind.{up_to}
use Rattle.sheet_fields.proofs.Steps.{reads_some, range_in}
use Rattle.sheet_fields.proofs.single.Goals as goal

pub returns-then-v-largest : goal.returns-then-v-largest
returns-then-v-largest c =
    let a = c.args in
    let s = a.s.now in
    let w = c.wide-v.ensures in
    let v : ℕ = get_or s a.spot.at 0 in
    rw w
    (rw (range_in a.width 0 a.largest 4 v (omega arith) (omega (arith, c.if-v-largest.true)))
    at (reads_some s c.requires.0 (found_last s a.spot.at c.if-spot-s.true (omega (arith, c.requires.1, c.if-v-largest.true))) (up_to a.width a.largest) (λ z. omega arith) c.wrapping_add_u32.ensures.value))
