-- `sheet_fields::location` meets its contract.
use Rattle.std.proofs.Common.{refl, arith}
use Rattle.kinds.specs.Kinds.{d_location}
use Rattle.verdict.proofs.Exits.{exit}
use Rattle.sheet_fields.proofs.Steps.{location_out, location_in}
use Rattle.sheet_fields.proofs.location.Goals as goal

pub returns-in_err-v : goal.returns-in_err-v
returns-in_err-v c = rw (exit c.from_residual.ensures.1) (c.in_err-v.ensures _)

pub returns-then-v-last : goal.returns-then-v-last
returns-then-v-last c =
    let a = c.args in
    rw (location_out a.last a.lsp c.in_ok-v.v c.then-v-last.either) at (c.in_ok-v.ensures (d_location a.last a.lsp) refl)

pub returns : goal.returns
returns c =
    let a = c.args in
    rw (location_in a.last a.lsp c.in_ok-v.v (omega arith) (omega arith)) at (c.in_ok-v.ensures (d_location a.last a.lsp) refl)
