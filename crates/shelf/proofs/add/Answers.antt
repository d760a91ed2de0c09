-- `shelf::add` meets its contract.
use mathlib.Core.Path.{sym, ap, ◌∙◌}
use Rattle.shelf.specs.declared.Shelved.{Shelved}
use Rattle.shelf.proofs.Verdicts.{refused_read, accepted_read}
use Rattle.shelf.proofs.Answers.{add_refused, add_first}
use Rattle.shelf.proofs.add.Goals as goal

pub returns-then-is_shelf : goal.returns-then-is_shelf
returns-then-is_shelf c =
    let a = c.args in
    rw c.from.ensures (add_refused a.store.now a.used a.sheet.now (refused_read a.sheet.now _ _ c.in-Err.ensures) (sym c.if-is_shelf.ensures))

pub added-requires : goal.added-requires
added-requires c = accepted_read c.args.sheet.now _ c.in-Ok.ensures

pub returns-else-is_shelf : goal.returns-else-is_shelf
returns-else-is_shelf c =
    let a = c.args in
    ap (λ (x : Shelved). record { answer = x; store = a.store.now }) c.answer.ensures
    ∙ add_first a.store.now a.used a.sheet.now (refused_read a.sheet.now _ _ c.in-Err.ensures) (sym c.if-is_shelf.ensures)
