-- `sheet_fields::numbered::ranged` meets its contract.
use Rattle.std.proofs.Common.{refl, arith}
use Rattle.kinds.specs.Kind.{range}
use Rattle.sheet_fields.proofs.Steps.{range_out, range_in}
use Rattle.sheet_fields.proofs.numbered.ranged.Goals as goal

pub returns-in-Err : goal.returns-in-Err
returns-in-Err c = rw c.from.ensures (c.in-Err.ensures _)

pub returns-then-largest-v : goal.returns-then-largest-v
returns-then-largest-v c =
    let a = c.args in
    rw (range_out a.width a.least a.largest a.refusal c.in-Ok.v c.if-largest-v.either) at (c.in-Ok.ensures (range a.width a.least a.largest a.refusal) refl)

pub returns-else-largest-v : goal.returns-else-largest-v
returns-else-largest-v c =
    let a = c.args in
    rw (range_in a.width a.least a.largest a.refusal c.in-Ok.v (omega arith) (omega arith)) at (c.in-Ok.ensures (range a.width a.least a.largest a.refusal) refl)
