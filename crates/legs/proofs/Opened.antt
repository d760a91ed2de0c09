-- Values that conform to a tree, opened field by field; a count of constraints, and the constraints.
use mathlib.Core.Path.{◌≡◌, refl}
use mathlib.Core.List.{List, ◌∷◌}
use Prim.Native.Nat.{ℕ}
use lib.ListN.{drop, get_or}
use Rattle.kinds.specs.declared.Item.{Item}
use Rattle.kinds.specs.Kind.{Kind}
use Rattle.kinds.specs.Kinds.{n_iter}
use Rattle.format.specs.Format.{Format, field, times}
use Rattle.format.specs.Conforming.{Conforming, also}
use Rattle.grammar.specs.journey.Journey.{temporary_constraint, constraints}
use Rattle.legs.specs.Legs.{Constraint, constraints_of, after_constraints}

pub opened : {C : Type 0} {Good : Kind → Item → Type 0} {k : Kind} {next : ℕ → Format} {l : List Item} → Conforming Good (field k next) l
    → ((i : Item) (t : List Item) → l ≡ i ∷ t → Good k i → Conforming Good (next i.packet) t → C) → C
opened (also {i = i} {l = l} g c) f = f i l refl g c

-- the part of the tree that has a leg's constraints, after their count
abbrev pub counted : Format → Format
counted f = field (n_iter constraints) λ m. times temporary_constraint m f

-- the constraints of such numbers, and what comes after them
abbrev pub pick_constraints : List ℕ → List Constraint
pick_constraints s = constraints_of (get_or s 0 0) (drop 1 s)

abbrev pub pick_after : List ℕ → List ℕ
pick_after s = after_constraints (get_or s 0 0) (drop 1 s)
