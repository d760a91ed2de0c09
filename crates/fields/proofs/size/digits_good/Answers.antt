-- `fields::size::digits_good` meets its contract.
use Rattle.std.proofs.Common.{arith}
use Rattle.fields.proofs.size.Nibbles.{tops_digits}
use Rattle.fields.proofs.size.digits_good.Goals as goal

pub returns : goal.returns
returns c = tops_digits 8 c.args.v (omega arith)
