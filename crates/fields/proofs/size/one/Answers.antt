-- `fields::size::one` meets its contract.
use Rattle.std.proofs.Common.{arith}
use Rattle.kinds.specs.Kind.{range}
use Rattle.fields.proofs.size.Bytes.{bytes_some, both_in, one_byte}
use Rattle.fields.proofs.size.one.Goals as goal

pub returns-then-v-largest : goal.returns-then-v-largest
returns-then-v-largest c = λ w x. let a = c.args in bytes_some (range w 0 a.largest x) a.v (both_in 0 a.largest a.v (omega arith) (omega arith)) (one_byte a.v (omega arith))
