-- An accepted journey sheet, and its numbers, as the contracts say it. No promise names them.
use Rattle.std.specs.Prelude.{◌≡◌, List, ℕ}
use Rattle.format.specs.Format.{accepted, values_of, sheet_numbers}
use Rattle.grammar.specs.declared.link.Tree.TheVariants.{Journey}
use Rattle.grammar.specs.internal.link.Trees.{tree_sheet}

-- the journey sheet is accepted
abbrev pub AcceptedJourney : List ℕ → Type 0
AcceptedJourney s = tree_sheet Journey s ≡ accepted (values_of (tree_sheet Journey s))

-- its numbers
abbrev pub numbers_of_journey : List ℕ → List ℕ
numbers_of_journey s = sheet_numbers (values_of (tree_sheet Journey s))
