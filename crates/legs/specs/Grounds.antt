-- The ground of each refusal of a run on a journey, 22 to 26, but for the train's own. No operation is run.
use Rattle.std.specs.Prelude.{◌≡◌, List, ◌∷◌, ◌⊎◌, ℕ, ◌+◌, ◌≤◌, ◌<◌, length, get_or}
use Rattle.speed.specs.declared.Train.{Train}
use Rattle.speed.specs.Speed.{segment_length}
use Rattle.speed.specs.Run.{last_start}
use Rattle.legs.specs.Legs.{Constraint, Leg}

-- "22 where leg is no segment of the journey or the run would begin before it"
pub data OffJourney (count leg : ℕ) (l : List Leg) : Type 0 where
  past_last : length l ≤ leg → OffJourney count leg l
  before_first : leg + 1 < count → OffJourney count leg l

-- neither of the two
pub record OnJourney (count leg : ℕ) (l : List Leg) : Type 0 where
  pub inside : leg < length l
  pub begins : count ≤ leg + 1

-- "its NID_C, NID_SP or version are not those of the journey's segment at its place"
pub data Differs (s : List ℕ) (g : Leg) : Type 0 where
  country : (get_or s 6 0 ≡ g.nid_c → ⊥) → Differs s g
  number : (get_or s 7 0 ≡ g.nid_sp → ⊥) → Differs s g
  major : (get_or s 8 0 ≡ g.major → ⊥) → Differs s g
  minor : (get_or s 9 0 ≡ g.minor → ⊥) → Differs s g

-- "a location that it uses outside the segment (a start at or past L_SP, an end of 0 or past L_SP)"; ranges 0 and 2 use the start, 1 and 2 the end
pub data Outside (lsp : ℕ) (c : Constraint) : Type 0 where
  start : (c.range ≡ 0) ⊎ (c.range ≡ 2) → lsp ≤ c.start → Outside lsp c
  no_end : (c.range ≡ 1) ⊎ (c.range ≡ 2) → c.end ≡ 0 → Outside lsp c
  end : (c.range ≡ 1) ⊎ (c.range ≡ 2) → lsp < c.end → Outside lsp c

-- "a constraint of type 0 there has a location that it uses outside the segment"
pub data SomeOutside (lsp : ℕ) : List Constraint → Type 0 where
  this : {c : Constraint} {l : List Constraint} → c.type ≡ 0 → Outside lsp c → SomeOutside lsp (c ∷ l)
  next : {c : Constraint} {l : List Constraint} → SomeOutside lsp l → SomeOutside lsp (c ∷ l)

-- 23, 24 and 25, in this order, of one segment of the run and the journey's segment at its place
pub data LegGround (s : List ℕ) (g : Leg) (r : ℕ) : Type 0 where
  other : Differs s g → r ≡ 23 → LegGround s g r
  -- "24 where that segment is not travelled in its nominal direction (Q_SP_DIR 1)"
  reverse : (Differs s g → ⊥) → (g.direction ≡ 1 → ⊥) → r ≡ 24 → LegGround s g r
  outside : (Differs s g → ⊥) → g.direction ≡ 1 → SomeOutside (segment_length s) g.constraints → r ≡ 25 → LegGround s g r

-- none of them
pub record LegFits (s : List ℕ) (g : Leg) : Type 0 where
  pub same : Differs s g → ⊥
  pub nominal : g.direction ≡ 1
  pub inside : SomeOutside (segment_length s) g.constraints → ⊥

-- "then for each segment of the run, in order": the first that does not fit, after segments that do
pub data LegsGround (r : ℕ) : List (List ℕ) → List Leg → Type 0 where
  here : {s : List ℕ} {run : List (List ℕ)} {g : Leg} {l : List Leg} → LegGround s g r → LegsGround r (s ∷ run) (g ∷ l)
  later : {s : List ℕ} {run : List (List ℕ)} {g : Leg} {l : List Leg} → LegFits s g → LegsGround r run l → LegsGround r (s ∷ run) (g ∷ l)

-- "the run does not begin at leg 0, and x counted from the run's start is below the train's length"
pub record TailBefore (count leg : ℕ) (t : Train) (x : ℕ) (run : List (List ℕ)) : Type 0 where
  pub within : count < leg + 1
  pub short : last_start 0 run + x < t.length
