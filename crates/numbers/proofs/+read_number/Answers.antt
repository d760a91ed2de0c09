-- In the code's order: no group left; the slice's end; a last group; a group that another follows.
use Rattle.std.proofs.Common.{◌+◌, ◌-◌, ap, ◌∙◌, arith, drop}
use Rattle.bits.proofs.Cells.{whole_part}
use Rattle.numbers.specs.Numbers.{number_of}
use Rattle.numbers.specs.internal.Groups.{counted}
use Rattle.numbers.proofs.Reading.{number_none, number_end_lem, number_more, number_below, counted_most, counted_last}
use Rattle.numbers.proofs.+read_number.Goals as goal

pub returns-then-left-eq0 : goal.returns-then-left-eq0
returns-then-left-eq0 t c =
    let a = c.args in
    ap counted (number_none a.s.now a.at a.left c.if-left-eq0.true)

pub returns-then-s-at : goal.returns-then-s-at
returns-then-s-at t c =
    let a = c.args in
    ap counted (number_end_lem a.s.now a.at a.left c.if-s-at.true)

pub returns-then-b-lt128 : goal.returns-then-b-lt128
returns-then-b-lt128 t c =
    let a = c.args in
    rw c.from-b.ensures (counted_last a.s.now a.at a.left (omega arith) (omega arith) (omega arith))

pub join-requires : goal.join-requires
join-requires t c =
    let a = c.args in
    let s = a.s.now in (
      omega arith,
      omega (arith, c.from-b.ensures, c.type_inv.s a.at),
      rw (c.read_number.ensures, whole_part s) (counted_most (number_of (a.left - 1) (drop (a.at + 1) s)) (number_below (a.left - 1) (drop (a.at + 1) s))),
    )

pub returns : goal.returns
returns t c =
    let a = c.args in
    let s = a.s.now in
    let n = number_of (a.left - 1) (drop (a.at + 1) s) in
    let b = c.from-b.ensures in
    c.join.ensures.of n (number_below (a.left - 1) (drop (a.at + 1) s)) (rw (whole_part s) at c.read_number.ensures)
    ∙ rw b (ap counted (number_more s a.at a.left (omega arith) (omega arith) (omega arith)))
