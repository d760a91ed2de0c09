-- `numbers::accepted::number` meets its contract.
use Rattle.numbers.proofs.accepted.Groups.{there_inside, short_inside, short_reads}
use native.Mathlib.Omega.{arith}
use Rattle.numbers.proofs.accepted.number.Goals as goal

pub bounds-s-from : goal.bounds-s-from
bounds-s-from c = there_inside c.requires

pub bounds-s-from-2 : goal.bounds-s-from-2
bounds-s-from-2 c =
    short_inside c.requires c.from-b.ensures (c.type_inv.s c.args.from).fits

pub overflow_add-result-then-last-lt128 : goal.overflow_add-result-then-last-lt128
overflow_add-result-then-last-lt128 c =
    omega (arith, short_inside c.requires c.from-b.ensures (c.type_inv.s c.args.from).fits)

pub overflow_add-result-then-last-lt128-2 : goal.overflow_add-result-then-last-lt128-2
overflow_add-result-then-last-lt128-2 c =
    omega (arith, short_inside c.requires c.from-b.ensures (c.type_inv.s c.args.from).fits)

pub returns-then-last-lt128 : goal.returns-then-last-lt128
returns-then-last-lt128 c =
    short_reads c.requires c.from-b.ensures (c.type_inv.s c.args.from).fits c.from-last.result c.from-last.ensures c.if-last-lt128.true
