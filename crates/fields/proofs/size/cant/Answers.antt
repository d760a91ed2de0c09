-- `fields::size::cant` meets its contract.
use Rattle.std.proofs.Common.{arith, le-ltb, lt-ltb}
use Rattle.kinds.specs.Kinds.{nc_cd_diff}
use Rattle.fields.proofs.size.Bytes.{bytes_some, cant_bytes}
use Rattle.fields.proofs.size.cant.Goals as goal

pub returns-then-v-lt2 : goal.returns-then-v-lt2
returns-then-v-lt2 c = let v = c.args.v in bytes_some nc_cd_diff v (lt-ltb v 11 (omega arith)) (rw (lt-ltb v 2 (omega arith)) at (cant_bytes v (omega arith)))

pub returns-else-v-lt2 : goal.returns-else-v-lt2
returns-else-v-lt2 c = let v = c.args.v in bytes_some nc_cd_diff v (lt-ltb v 11 (omega arith)) (rw (le-ltb v 2 (omega arith)) at (cant_bytes v (omega arith)))
