-- `sheet_judge::tree_numbers` meets its contract.
use Rattle.sheet_judge.specs.internal.Whole.{after_part}
use Rattle.format.proofs.Ways.{value_on, value_off}
use Rattle.verdict.proofs.Exits.{exit}
use Rattle.sheet_judge.proofs.tree_numbers.Goals as goal

pub returns-in_err-next : goal.returns-in_err-next
returns-in_err-next c = rw (exit c.from_residual.ensures.1) (value_off (λ v. after_part c.args.tree) (rw c.number-number.ensures at c.in_err-next.ensures))

pub returns : goal.returns
returns c = value_on (λ v. after_part c.args.tree) (rw c.number-number.ensures at c.in_ok-next.ensures) c.fields.ensures
