-- The lowest speeds of the entries so far, and of those to come, as the contracts say it. No promise names it.
use Rattle.std.specs.Prelude.{◌≡◌, Bool, cond, List, [], ◌∷◌, ℕ, ◌+◌, ◌-◌, ◌*◌, ◌/◌, ◌%◌, ◌≤◌, ◌<◌, min, ltb, leb}
use Rattle.speed.specs.declared.Train.{Train}
use Rattle.speed.specs.Speed.{Entry, Element, not_above, greatest_speeds, named_speeds, lowest, instead, entries_of}
use Rattle.speed_element.specs.declared.Lows.{Lows}
use Rattle.speed_element.specs.declared.Open.{Open}

-- every speed is below it, and a number from it on stands for no speed
abbrev pub none : ℕ
none = 1024

-- "take the lowest of them instead", where low stands for those before l
abbrev pub instead_from : ℕ → ℕ → List ℕ → ℕ
instead_from low v l = cond (ltb low none) (lowest low l) (instead v l)

-- "the lowest of this and all", where low stands for those before l
abbrev pub lowest_from : ℕ → ℕ → List ℕ → ℕ
lowest_from low v l = lowest (cond (ltb low none) (min v low) v) l

-- a speed, where it counts
abbrev pub counted : Bool → ℕ → ℕ
counted so v = cond so v (v + none)

-- how far an entry's figure lies below the train's; further than any cant deficiency where it has no figure, or one that lies above
pub record Distant (t : Train) (q class far : ℕ) : Type 0 where
  pub below : q ≡ 0 → class ≤ t.cant → far ≡ t.cant - class
  pub above : t.cant < class → 4294967296 ≤ far
  pub other : 0 < q → 4294967296 ≤ far
  pub fits : far < 18014398509481984

-- an entry as one number: the lower, the nearer its figure, and where that is the same, the lower its speed
abbrev pub folded : ℕ → ℕ → ℕ
folded far v = far * 1024 + v

-- an entry counts, if its figure lies no further below the train's than the train's is; no_figure never does
abbrev pub counts : Train → ℕ → Bool
counts t best = leb (best / 1024) t.cant

abbrev pub no_figure : ℕ
no_figure = 4398046511104

-- the entry that a number stands for
abbrev pub folded_entry : Train → ℕ → Entry
folded_entry t best = record { q_diff = 0; class = t.cant - best / 1024; v_diff = best % 1024 }

-- "the entries of the greatest figure", where the lowest number of those before es stands for them
abbrev pub cant_from : Train → ℕ → ℕ → List Entry → ℕ
cant_from t best v es = instead v (greatest_speeds (cond (counts t best) (folded_entry t best ∷ not_above t es) (not_above t es)))

-- the speed by cant deficiency where no entry is to come
abbrev pub cant_of : Train → ℕ → ℕ → ℕ
cant_of t best v = cond (counts t best) (best % 1024) v

abbrev pub no_lows : Lows
no_lows = record { cant = no_figure; replacing = none; lowering = none }

-- the bounds of an accepted entry's numbers
pub record Kept (q class v : ℕ) : Type 0 where
  pub few : q < 4
  pub category : 0 < q → class < 3
  pub speed : v < none

-- "An element's speed for a train", where the lows stand for its entries before es
abbrev pub speed_from : Train → Lows → ℕ → List Entry → ℕ
speed_from t lows v es =
    lowest_from lows.lowering (instead_from lows.replacing (cant_from t lows.cant v es) (named_speeds t 1 es)) (named_speeds t 2 es)

-- an element's speed where no entry is to come
abbrev pub speed_of : Train → Lows → ℕ → ℕ
speed_of t lows v = lowest_from lows.lowering (instead_from lows.replacing (cant_of t lows.cant v) []) []

-- the lowest speed held, with the element's, which is a speed
pub record Worked (t : Train) (lows : Lows) (v held r : ℕ) : Type 0 where
  pub is : r ≡ min held (speed_of t lows v)
  pub below : speed_of t lows v < none

-- the lows after one entry more stand for it too
pub record OneMore (t : Train) (lows : Lows) (q class w : ℕ) (after : Lows) : Type 0 where
  pub same : (v : ℕ) (es : List Entry) → speed_from t after v es ≡ speed_from t lows v (record { q_diff = q; class = class; v_diff = w } ∷ es)

-- an open element with these entries, and with those that numbers spell
abbrev pub element_with : Open → List Entry → Element
element_with o es = record { start = o.start; v_static = o.v_static; q_front = o.q_front; entries = es }

abbrev pub element_as : Open → List ℕ → Element
element_as o s = element_with o (entries_of o.count s)
