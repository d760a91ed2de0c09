-- `shelf::added` meets its contract.
use mathlib.Core.Path.{ap, ◌∙◌}
use Prim.Native.Nat.{ℕ}
use Rattle.std.proofs.lemmas.Result.{err_from_is_err_and}
use Rattle.std.specs.Prelude.{Result, Err}
use Rattle.kinds.specs.declared.refusals.Refusal.{Refusal}
use Rattle.shelf.proofs.Answers.{ended, add_none}
use Rattle.shelf.proofs.added.Goals as goal

pub returns-in_err-old : goal.returns-in_err-old
returns-in_err-old c =
    let p = err_from_is_err_and c.from_residual.result c.from_residual.ensures.1 in
    let a = c.args in
    ap (λ (x : Result ℕ Refusal). ended x a.used a.store.now) (p.1 ∙ ap Err p.2) ∙ add_none a.store.now a.used a.sheet.now _ c.in_err-old.ensures
