-- `numbers::accepted::single` meets its contract.
use Rattle.numbers.proofs.accepted.Groups.{there_inside, single_reads}
use native.Mathlib.Omega.{arith}
use Rattle.numbers.proofs.accepted.single.Goals as goal

pub bounds-s-from : goal.bounds-s-from
bounds-s-from c = there_inside c.requires.there

pub overflow_add-result : goal.overflow_add-result
overflow_add-result c = omega (arith, there_inside c.requires.there)

pub returns : goal.returns
returns c =
    single_reads c.requires.there c.from.ensures (c.type_inv.s c.args.from).fits c.requires.small
