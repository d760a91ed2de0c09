-- `fields::size::speed` meets its contract.
use Rattle.std.proofs.Common.{arith, le-ltb, lt-ltb, le-leb}
use Rattle.kinds.specs.Kinds.{speed}
use Rattle.fields.proofs.size.Bytes.{bytes_some, speed_bytes}
use Rattle.fields.proofs.size.speed.Goals as goal

pub returns-then-v-lt26 : goal.returns-then-v-lt26
returns-then-v-lt26 c = let v = c.args.v in bytes_some speed v (le-leb v 120 (omega arith)) (rw (lt-ltb v 26 (omega arith)) at (speed_bytes v (omega arith)))

pub returns-else-v-lt26 : goal.returns-else-v-lt26
returns-else-v-lt26 c = let v = c.args.v in bytes_some speed v (le-leb v 120 (omega arith)) (rw (le-ltb v 26 (omega arith)) at (speed_bytes v (omega arith)))
