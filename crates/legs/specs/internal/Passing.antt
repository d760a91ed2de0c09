-- A pass over the constraints of a run's legs, segment after segment, with the lowest speed so far. No promise names it.
use Rattle.std.specs.Prelude.{◌≡◌, cond, List, [], ◌∷◌, ℕ, ◌+◌, min}
use Rattle.speed.specs.declared.Train.{Train}
use Rattle.speed.specs.Speed.{segment_length}
use Rattle.speed.specs.Run.{last_start}
use Rattle.legs.specs.Legs.{Constraint, Leg}
use Rattle.legs.specs.Restricted.{holds_at}

-- a segment's constraints, one after the other, each from the lowest speed so far
abbrev pub passed_over : Train → ℕ → ℕ → ℕ → List Constraint → ℕ
passed_over t lsp y v [] = v
passed_over t lsp y v (c ∷ l) = passed_over t lsp y (cond (holds_at t lsp y c) (min v c.speed) v) l

-- a run's segments, each at the place that lies as far from its own start as x of the last does
pub data LegsPassed (t : Train) (x : ℕ) : List (List ℕ) → List Leg → ℕ → ℕ → Type 0 where
  over : {g : List Leg} {v : ℕ} → LegsPassed t x [] g v v
  one : {s : List ℕ} {r : List (List ℕ)} {g : Leg} {l : List Leg} {v w out : ℕ} → w ≡ passed_over t (segment_length s) (last_start 0 (s ∷ r) + x) v g.constraints
      → LegsPassed t x r l w out → LegsPassed t x (s ∷ r) (g ∷ l) v out
