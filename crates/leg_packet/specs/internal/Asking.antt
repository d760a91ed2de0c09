-- An accepted journey packet, and the numbers of its sheet, as the contracts say it. No promise names them.
use Rattle.std.specs.Prelude.{◌≡◌, List, ℕ}
use Rattle.format.specs.Format.{accepted, values_of, sheet_numbers}
use Rattle.grammar.specs.declared.link.Tree.TheVariants.{Journey}
use Rattle.grammar.specs.internal.link.Trees.{tree_packet}

-- the journey packet is accepted
abbrev pub AcceptedJourney : List ℕ → Type 0
AcceptedJourney s = tree_packet Journey s ≡ accepted (values_of (tree_packet Journey s))

-- the numbers of its sheet
abbrev pub numbers_of_journey : List ℕ → List ℕ
numbers_of_journey s = sheet_numbers (values_of (tree_packet Journey s))
