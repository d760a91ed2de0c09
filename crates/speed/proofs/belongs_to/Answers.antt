-- `speed::belongs_to` meets its contract.
use Prim.Native.Nat.{◌%◌}
use native.Mathlib.Omega.{arith}
use Rattle.speed.proofs.Laws.{byte_most, belongs_bit}
use Rattle.speed.proofs.belongs_to.Goals as goal

pub overflow_mul-all : goal.overflow_mul-all
overflow_mul-all c = let t = c.args.train in omega (arith, byte_most t.freight_g)

pub overflow_add-all : goal.overflow_add-all
overflow_add-all c = let t = c.args.train in omega (arith, byte_most t.freight_p, byte_most t.freight_g)

pub overflow_mul-all-2 : goal.overflow_mul-all-2
overflow_mul-all-2 c = let t = c.args.train in omega (arith, byte_most t.passenger)

pub overflow_add-all-2 : goal.overflow_add-all-2
overflow_add-all-2 c = let t = c.args.train in omega (arith, byte_most t.freight_p, byte_most t.freight_g, byte_most t.passenger)

pub returns : goal.returns
returns c = let a = c.args in belongs_bit a.train (a.category % 32)
