-- "Longer or slower never means faster": what is longer or slower, "With all else equal", of two trains and of the values of two segments.
use Rattle.std.specs.Prelude.{◌≡◌, List, [], ◌∷◌, ℕ, ◌≤◌}
use Rattle.kinds.specs.declared.Item.{Item}
use Rattle.kinds.specs.Kind.{Kind}
use Rattle.kinds.specs.Kinds.{speed}
use Rattle.format.specs.Format.{Format, end, field}
use Rattle.speed.specs.declared.Train.{Train}

-- "With all else equal": two trains with one cant deficiency and the same memberships; nothing is said of a train that "joins a category"
pub record Alike (u t : Train) : Type 0 where
  pub cant : u.cant ≡ t.cant
  pub in_p : u.freight_p ≡ t.freight_p
  pub in_g : u.freight_g ≡ t.freight_g
  pub passengers : u.passenger ≡ t.passenger

-- "Longer or slower": u is at least as long as t, and its maximum is not above that of t
pub record Slower (u t : Train) : Type 0 where
  pub longer : t.length ≤ u.length
  pub lower : u.maximum ≤ t.maximum
  pub alike : Alike u t

-- "raising any speed in the sheet": b is a speed that is at least a, and any other number is as it was
pub record RaisedTo (k : Kind) (a b : ℕ) : Type 0 where
  pub speeds : k ≡ speed → a ≤ b
  pub others : (k ≡ speed → ⊥) → b ≡ a

-- field by field, by the tree of the first values: R of each two numbers
pub data FieldByField (R : Kind → ℕ → ℕ → Type 0) : Format → List Item → List Item → Type 0 where
  over : FieldByField R end [] []
  one : {k : Kind} {next : ℕ → Format} {i j : Item} {l m : List Item} → R k i.sheet j.sheet → FieldByField R (next i.packet) l m
      → FieldByField R (field k next) (i ∷ l) (j ∷ m)

-- "raising any speed in the sheet": V_STATIC and V_DIFF, any number of them at once
abbrev pub Raising : Format → List Item → List Item → Type 0
Raising f l m = FieldByField RaisedTo f l m
