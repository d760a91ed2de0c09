-- `sheet_fields::after` meets its contract.
use Rattle.std.proofs.Common.{refl, arith}
use Rattle.kinds.specs.Kinds.{d_end_after}
use Rattle.verdict.proofs.Exits.{exit}
use Rattle.sheet_fields.proofs.Steps.{plain_off, plain_on, after_wide, after_low, after_in, wide_refusal, low_refusal}
use Rattle.sheet_fields.proofs.after.Goals as goal

pub returns-in_err-v : goal.returns-in_err-v
returns-in_err-v c = rw (exit c.from_residual.ensures.1) (plain_off (c.in_err-v.ensures _))

pub returns-then-v-gt-LARGEST : goal.returns-then-v-gt-LARGEST
returns-then-v-gt-LARGEST c =
    let a = c.args in
    let v = c.in_ok-v.v in
    plain_off (rw (after_wide a.start v (omega arith), wide_refusal a.start v (omega arith)) at (c.in_ok-v.ensures (d_end_after a.start) refl))

pub returns-then-v-start : goal.returns-then-v-start
returns-then-v-start c =
    let a = c.args in
    let v = c.in_ok-v.v in
    plain_off (rw (after_low a.start v (omega arith), low_refusal a.start v (omega arith)) at (c.in_ok-v.ensures (d_end_after a.start) refl))

pub returns : goal.returns
returns c =
    let a = c.args in
    plain_on (rw (after_in a.start c.in_ok-v.v (omega arith) (omega arith)) at (c.in_ok-v.ensures (d_end_after a.start) refl))
