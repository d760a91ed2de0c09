-- `convert_sheet::tree_of` meets its contract.
use mathlib.Core.Path.{ap, sym, ◌∙◌}
use Rattle.grammar.specs.internal.link.Trees.{by_number}
use Rattle.convert_sheet.proofs.tree_of.Goals as goal

pub returns-in-None : goal.returns-in-None
returns-in-None c = ap by_number (sym c.in-None.is ∙ c.number_at.ensures)

pub returns-in-Some : goal.returns-in-Some
returns-in-Some c = c.tree_of.ensures ∙ ap by_number (sym c.in-Some.is ∙ c.number_at.ensures)
