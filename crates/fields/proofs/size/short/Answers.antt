-- `fields::size::short` meets its contract.
use Rattle.std.proofs.Common.{arith}
use Rattle.fields.proofs.size.Bytes.{one_byte, two_bytes}
use Rattle.fields.proofs.size.short.Goals as goal

pub returns-then-v-lt128 : goal.returns-then-v-lt128
returns-then-v-lt128 c = one_byte c.args.v (omega arith)

pub returns-else-v-lt128 : goal.returns-else-v-lt128
returns-else-v-lt128 c = two_bytes c.args.v (omega arith) (omega arith)
