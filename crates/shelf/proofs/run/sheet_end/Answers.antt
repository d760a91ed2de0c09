-- `shelf::run::sheet_end` meets its contract.
use native.Mathlib.Omega.{arith}
use Rattle.shelf.proofs.Verdicts.{end_refused, end_accepted}
use Rattle.shelf.proofs.run.sheet_end.Goals as goal

pub returns-in-Err : goal.returns-in-Err
returns-in-Err c =
    let a = c.args in
    end_refused a.run.now a.at (omega arith) c.length_at-count.ensures (omega arith) (omega arith) _ _ c.in-Err.ensures

pub returns-in-Ok : goal.returns-in-Ok
returns-in-Ok c =
    let a = c.args in
    end_accepted a.run.now a.at (omega arith) c.length_at-count.ensures (omega arith) (omega arith) _ c.in-Ok.ensures
