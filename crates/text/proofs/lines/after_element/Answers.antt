-- `text::lines::after_element` meets its contract.
use Rattle.text.specs.internal.sheet.Numbers.{numbers_in}
use Rattle.text.proofs.lines.Laying.{value_at, after_here}
use lib.ListN.{drop}
use Rattle.text.proofs.lines.after_element.Goals as goal

pub returns : goal.returns
returns c =
    let a = c.args in
    let ns = numbers_in (drop a.from a.sheet.now) in
    after_here ns c.number-entries.result (value_at 2 ns c.past.ensures c.number-entries.ensures) c.past-2.ensures
