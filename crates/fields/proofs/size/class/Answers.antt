-- `fields::size::class` meets its contract.
use Rattle.std.proofs.Common.{arith}
use Rattle.fields.proofs.size.Bytes.{class_in}
use Rattle.fields.proofs.size.class.Goals as goal

pub returns-else-most_class-v : goal.returns-else-most_class-v
returns-else-most_class-v c = let a = c.args in class_in a.q a.v (omega (arith, c.if-most_class-v.false, c.most_class.ensures))
