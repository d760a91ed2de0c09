-- Two journeys, the first of which restricts as the second does or more: temporary constraints with lower speeds, and any others among them.
use Rattle.std.specs.Prelude.{List, [], ◌∷◌, ℕ, ◌≤◌}
use Rattle.speed.specs.Run.{EachTwo}
use Rattle.legs.specs.Legs.{Constraint, Leg}

-- the constraints of the second, in their order, each with a speed that is as high or lower, and any others among them
pub data Tighter : List Constraint → List Constraint → Type 0 where
  none : Tighter [] []
  both : (type range start end front : ℕ) {v w : ℕ} {l m : List Constraint} → v ≤ w → Tighter l m
      → Tighter (record { type = type; range = range; start = start; end = end; q_front = front; speed = v } ∷ l)
      (record { type = type; range = range; start = start; end = end; q_front = front; speed = w } ∷ m)
  new : {c : Constraint} {l m : List Constraint} → Tighter l m → Tighter (c ∷ l) m

-- segment for segment of two journeys
abbrev pub LegsTighter : List Leg → List Leg → Type 0
LegsTighter g h = EachTwo (λ (a b : Leg). Tighter a.constraints b.constraints) g h
