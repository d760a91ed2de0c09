-- Where a temporary constraint holds, in words: said of the constraint in its own segment. Places are in cm, speeds in km/h.
use Rattle.std.specs.Prelude.{◌≡◌, List, ◌∷◌, ℕ, ◌+◌, ◌≤◌, ◌<◌}
use Rattle.speed.specs.declared.Train.{Train}
use Rattle.speed.specs.Speed.{segment_length}
use Rattle.speed.specs.Run.{last_start}
use Rattle.legs.specs.Legs.{Constraint, Leg}

-- "from its start to L_SP (range 0), from 0 to its end (1), from start to end (2), all of it (3)", the range that is none of the other three
pub data Stretch (lsp : ℕ) (c : Constraint) (from to : ℕ) : Type 0 where
  starts : c.range ≡ 0 → from ≡ c.start → to ≡ lsp → Stretch lsp c from to
  ends : c.range ≡ 1 → from ≡ 0 → to ≡ c.end → Stretch lsp c from to
  both : c.range ≡ 2 → from ≡ c.start → to ≡ c.end → Stretch lsp c from to
  whole : (c.range ≡ 0 → ⊥) → (c.range ≡ 1 → ⊥) → (c.range ≡ 2 → ⊥) → from ≡ 0 → to ≡ lsp → Stretch lsp c from to

-- "before its end, with Q_FRONT 0 before its end plus the train's length"
pub data Before (t : Train) (c : Constraint) (to y : ℕ) : Type 0 where
  inside : y < to → Before t c to y
  delayed : c.q_front ≡ 0 → y < to + t.length → Before t c to y

-- "A temporary constraint of type 0 restricts"; "It holds as an element does": at the place y, counted from its segment's start
pub record Holds (t : Train) (lsp y : ℕ) (c : Constraint) : Type 0 where
  pub speeds : c.type ≡ 0
  pub from : ℕ
  pub to : ℕ
  pub stretch : Stretch lsp c from to
  pub begun : from ≤ y
  pub before : Before t c to y

-- one of a segment's constraints holds, with the speed v
pub data HeldIn (t : Train) (lsp y v : ℕ) : List Constraint → Type 0 where
  this : {c : Constraint} {l : List Constraint} → Holds t lsp y c → v ≡ c.speed → HeldIn t lsp y v (c ∷ l)
  next : {c : Constraint} {l : List Constraint} → HeldIn t lsp y v l → HeldIn t lsp y v (c ∷ l)

-- "across boundaries too": one of the run's, in its own segment, at the place that lies as far from its start as x of the last does
pub data HeldAlong (t : Train) (x v : ℕ) : List (List ℕ) → List Leg → Type 0 where
  here : {s : List ℕ} {r : List (List ℕ)} {g : Leg} {l : List Leg} → HeldIn t (segment_length s) (last_start 0 (s ∷ r) + x) v g.constraints → HeldAlong t x v (s ∷ r) (g ∷ l)
  later : {s : List ℕ} {r : List (List ℕ)} {g : Leg} {l : List Leg} → HeldAlong t x v r l → HeldAlong t x v (s ∷ r) (g ∷ l)
