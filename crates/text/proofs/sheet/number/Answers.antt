-- `text::sheet::number` meets its contract.
use Rattle.text.proofs.sheet.Reading.{first_number, no_number}
use mathlib.Core.Path.{sym, ◌∙◌}
use Rattle.text.proofs.sheet.number.Goals as goal

pub returns-in-Some : goal.returns-in-Some
returns-in-Some c =
    let a = c.args in
    first_number a.sheet.now a.at _ (sym c.number_at.ensures ∙ c.in-Some.is)

pub returns-in-None : goal.returns-in-None
returns-in-None c =
    let a = c.args in
    no_number a.sheet.now a.at (sym c.number_at.ensures ∙ c.in-None.is)
