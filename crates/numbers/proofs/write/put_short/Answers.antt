-- `numbers::write::put_short` meets its contract.
use lib.ListN.{length-set}
use Rattle.numbers.proofs.write.Writing.{short_put, short_next}
use native.Mathlib.Omega.{arith}
use Rattle.numbers.proofs.write.put_short.Goals as goal

pub bounds-s-at : goal.bounds-s-at
bounds-s-at c = omega (arith, short_next c.args.s.now c.args.at c.args.v c.requires.0, c.requires.1)

pub bounds-s-at-2 : goal.bounds-s-at-2
bounds-s-at-2 c = rw length-set (omega (arith, short_next c.args.s.now c.args.at c.args.v c.requires.0, c.requires.1))

pub returns : goal.returns
returns c = short_put c.args.s.now c.args.at c.args.v c.requires.0
