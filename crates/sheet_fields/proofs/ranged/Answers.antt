-- `sheet_fields::ranged` meets its contract.
use Rattle.std.proofs.Common.{refl, arith}
use Rattle.kinds.specs.Kind.{range}
use Rattle.kinds.specs.Refusals.{refusal_number}
use Rattle.verdict.proofs.Exits.{exit}
use Rattle.sheet_fields.proofs.Steps.{range_out, range_in}
use Rattle.sheet_fields.proofs.ranged.Goals as goal

pub returns-in_err-v : goal.returns-in_err-v
returns-in_err-v c = rw (exit c.from_residual.ensures.1) (c.in_err-v.ensures _)

pub returns-then-v-least : goal.returns-then-v-least
returns-then-v-least c =
    let a = c.args in
    rw (range_out a.width a.least a.largest (refusal_number a.refusal) c.in_ok-v.v c.then-v-least.either) at (c.in_ok-v.ensures (range a.width a.least a.largest (refusal_number a.refusal)) refl)

pub returns : goal.returns
returns c =
    let a = c.args in
    rw (range_in a.width a.least a.largest (refusal_number a.refusal) c.in_ok-v.v (omega arith) (omega arith)) at (c.in_ok-v.ensures (range a.width a.least a.largest (refusal_number a.refusal)) refl)
