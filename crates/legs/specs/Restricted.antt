-- Where the temporary constraints of a journey hold in a run of its segments, and the restricted speed at x of the last. Places are in cm, speeds in km/h.
use Rattle.std.specs.Prelude.{Bool, cond, ◌&&◌, ◌||◌, List, [], ◌∷◌, ◌++◌, ℕ, ◌+◌, eqb, ltb, leb}
use Rattle.speed.specs.declared.Train.{Train}
use Rattle.speed.specs.Speed.{limited, lowest, segment_length}
use Rattle.speed.specs.Run.{last_start, speed_in_run}
use Rattle.legs.specs.Legs.{Constraint, Leg}

-- ---- a constraint in its own segment

-- "A range of starts uses the start only, .. both uses both"
abbrev pub uses_start : Constraint → Bool
uses_start c = eqb c.range 0 || eqb c.range 2

-- "ends the end only, both uses both .., whole segment neither"
abbrev pub uses_end : Constraint → Bool
uses_end c = eqb c.range 1 || eqb c.range 2

-- "from its start to L_SP (range 0), from 0 to its end (1), from start to end (2), all of it (3)": from here
abbrev pub begins_at : Constraint → ℕ
begins_at c = cond (uses_start c) c.start 0

-- "from its start to L_SP (range 0), from 0 to its end (1), from start to end (2), all of it (3)": to here
abbrev pub stops_at : ℕ → Constraint → ℕ
stops_at lsp c = cond (uses_end c) c.end lsp

-- ---- where it holds

-- "before its end, with Q_FRONT 0 before its end plus the train's length, across boundaries too"
abbrev pub held_until : Train → ℕ → Constraint → ℕ
held_until t lsp c = cond (eqb c.q_front 0) (stops_at lsp c + t.length) (stops_at lsp c)

-- "A temporary constraint of type 0 restricts"; "It holds as an element does: from its start on and before its end"; the place y is counted from its segment's start
abbrev pub holds_at : Train → ℕ → ℕ → Constraint → Bool
holds_at t lsp y c = eqb c.type 0 && (leb (begins_at c) y && ltb y (held_until t lsp c))

-- "the speeds of the constraints that hold there": those of one segment
abbrev pub held_in : Train → ℕ → ℕ → List Constraint → List ℕ
held_in t lsp y [] = []
held_in t lsp y (c ∷ l) = cond (holds_at t lsp y c) (c.speed ∷ held_in t lsp y l) (held_in t lsp y l)

-- "the speeds of the constraints that hold there": those of each segment of a run, at the place that lies as far from its own start as x of the last does
abbrev pub held_restrictions : Train → ℕ → List (List ℕ) → List Leg → List ℕ
held_restrictions t x [] g = []
held_restrictions t x (s ∷ r) [] = []
held_restrictions t x (s ∷ r) (g ∷ l) = held_in t (segment_length s) (last_start 0 (s ∷ r) + x) g.constraints ++ held_restrictions t x r l

-- ---- the restricted speed

-- "The answer is the lowest of the permitted speed (A9, A10) and the speeds of the constraints that hold there"
abbrev pub restricted_in_run : Train → ℕ → List (List ℕ) → List Leg → ℕ
restricted_in_run t x r g = lowest (limited t (speed_in_run t x r)) (held_restrictions t x r g)
