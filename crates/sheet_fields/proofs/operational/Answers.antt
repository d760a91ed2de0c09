-- `sheet_fields::operational` meets its contract.
use Rattle.std.proofs.Common.{sym, refl, ◌∙◌}
use Rattle.kinds.specs.Kinds.{nid_operational}
use Rattle.verdict.proofs.Exits.{exit}
use Rattle.sheet_fields.proofs.Steps.{plain_off, plain_on, operational_in, operational_out}
use Rattle.sheet_fields.proofs.operational.Goals as goal

pub returns-in_err-v : goal.returns-in_err-v
returns-in_err-v c = rw (exit c.from_residual.ensures.1) (plain_off (c.in_err-v.ensures _))

pub returns-then-digits_good : goal.returns-then-digits_good
returns-then-digits_good c = plain_on (rw (operational_in c.in_ok-v.v (sym c.digits_good.ensures ∙ c.if-digits_good.true)) at (c.in_ok-v.ensures nid_operational refl))

pub returns : goal.returns
returns c = plain_off (rw (operational_out c.in_ok-v.v (sym c.digits_good.ensures ∙ c.if-digits_good.false)) at (c.in_ok-v.ensures nid_operational refl))
