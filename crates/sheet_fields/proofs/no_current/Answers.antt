-- `sheet_fields::no_current` meets its contract.
use Rattle.std.proofs.Common.{refl}
use Rattle.kinds.specs.Kinds.{no_current}
use Rattle.verdict.proofs.Exits.{exit}
use Rattle.sheet_fields.proofs.Steps.{plain_off, plain_on, unused_in, unused_out}
use Rattle.sheet_fields.proofs.no_current.Goals as goal

pub returns-in_err-v : goal.returns-in_err-v
returns-in_err-v c = rw (exit c.from_residual.ensures.1) (plain_off (c.in_err-v.ensures _))

pub returns-then-v-eq0 : goal.returns-then-v-eq0
returns-then-v-eq0 c = plain_on (rw (unused_in c.in_ok-v.v c.if-v-eq0.true) at (c.in_ok-v.ensures no_current refl))

pub returns : goal.returns
returns c = plain_off (rw (unused_out c.in_ok-v.v c.if-v-eq0.false) at (c.in_ok-v.ensures no_current refl))
