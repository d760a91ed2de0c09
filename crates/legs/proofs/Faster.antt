-- A longer train, a journey that restricts more: the lowest of a speed and of those that hold is not higher.
use mathlib.Core.Path.{◌≡◌, refl, subst₂}
use mathlib.Core.Bool.{Bool, true, false, cond, ◌&&◌}
use mathlib.Core.List.{List, [], ◌∷◌, ◌++◌}
use Prim.Native.Nat.{ℕ, zero, suc, ◌+◌, ◌-◌, ◌≤◌, min}
use native.Mathlib.Omega.{arith}
use borrow.Author.Tests.{ltb-true, lt-ltb}
use lib.Dec.{eqb, ltb, leb}
use lib.ListN.{take, drop}
use Rattle.bits.proofs.Tests.{by_cases, and_left, and_right}
use Rattle.speed.specs.declared.Train.{Train}
use Rattle.speed.specs.Speed.{lowest, segment_length}
use Rattle.speed.specs.Run.{EachTwo, last_start}
use Rattle.speed.proofs.Runs.{AsLong, start_same}
use Rattle.legs.specs.Legs.{Constraint, Leg}
use Rattle.legs.specs.Restricted.{begins_at, held_until, holds_at, held_in, held_restrictions}
use Rattle.legs.specs.Travelled.{travelled_legs}
use Rattle.legs.specs.Faster.{Tighter, LegsTighter}

-- for each of the second a speed that is no higher, and perhaps others
data Under : List ℕ → List ℕ → Type 0 where
  none : Under [] []
  both : {v w : ℕ} {l m : List ℕ} → v ≤ w → Under l m → Under (v ∷ l) (w ∷ m)
  new : {v : ℕ} {l m : List ℕ} → Under l m → Under (v ∷ l) m

lowest_under : {v w : ℕ} {l m : List ℕ} → v ≤ w → Under l m → lowest v l ≤ lowest w m
lowest_under h Under.none = h
lowest_under {v} {w} h (Under.both {v = a} {w = b} g r) = lowest_under {v = min v a} {w = min w b} (omega arith) r
lowest_under {v} {w} h (Under.new {v = a} r) = lowest_under {v = min v a} {w = w} (omega arith) r

under_append : {a b c d : List ℕ} → Under a b → Under c d → Under (a ++ c) (b ++ d)
under_append Under.none s = s
under_append (Under.both h r) s = Under.both h (under_append r s)
under_append (Under.new r) s = Under.new (under_append r s)

-- chosen on the left wherever it is on the right
chosen_under : (b c : Bool) {v w : ℕ} {l m : List ℕ} → (c ≡ true → b ≡ true) → v ≤ w → Under l m → Under (cond b (v ∷ l) l) (cond c (w ∷ m) m)
chosen_under true true f h r = Under.both h r
chosen_under true false f h r = Under.new r
chosen_under false true f h r = absurd (let z : false ≡ true = f refl in let y : ◌≡◌ {A = ℕ} 0 1 = cc in omega arith)
chosen_under false false f h r = r

chosen_new : (b : Bool) (v : ℕ) {l m : List ℕ} → Under l m → Under (cond b (v ∷ l) l) m
chosen_new true v r = Under.new r
chosen_new false v r = r

module _ (u t : Train) (longer : t.length ≤ u.length) where
  until_longer : (lsp : ℕ) (c : Constraint) → held_until t lsp c ≤ held_until u lsp c
  until_longer lsp c = by_cases (eqb c.q_front 0) (λ d. rw d (omega arith)) (λ d. rw d (omega arith))

  -- what holds for a train holds for a longer one
  holds_longer : (lsp y : ℕ) (c : Constraint) → holds_at t lsp y c ≡ true → holds_at u lsp y c ≡ true
  holds_longer lsp y c h =
      let begun = leb (begins_at c) y in
      let until = ltb y (held_until t lsp c) in
      let both = and_right (eqb c.type 0) (begun && until) h in
      let b = ltb-true y (held_until t lsp c) (and_right begun until both) in
      rw (and_left (eqb c.type 0) (begun && until) h, and_left begun until both, lt-ltb y (held_until u lsp c) (omega (arith, until_longer lsp c)))

  held_tighter : (lsp y : ℕ) {l m : List Constraint} → Tighter l m → Under (held_in u lsp y l) (held_in t lsp y m)
  held_tighter lsp y Tighter.none = Under.none
  held_tighter lsp y (Tighter.both type range start end front {v} {w} h r) =
      let c : Constraint = record { type = type; range = range; start = start; end = end; q_front = front; speed = w } in
      chosen_under (holds_at u lsp y c) (holds_at t lsp y c) (holds_longer lsp y c) h (held_tighter lsp y r)
  held_tighter lsp y (Tighter.new {c = c} r) = chosen_new (holds_at u lsp y c) c.speed (held_tighter lsp y r)

  along_tighter : (x : ℕ) {r s : List (List ℕ)} {g h : List Leg} → AsLong r s → LegsTighter g h → Under (held_restrictions u x r g) (held_restrictions t x s h)
  along_tighter x EachTwo.none k = Under.none
  along_tighter x (EachTwo.another e a) EachTwo.none = Under.none
  along_tighter x (EachTwo.another {a = n} {b = m} {r = r} {s = s} e a) (EachTwo.another {a = g} {b = h} k more) =
      let start = start_same 0 (EachTwo.another {a = n} {b = m} e a) in
      under_append
      (subst₂ (λ (lsp y : ℕ). Under (held_in u (segment_length n) (last_start 0 (n ∷ r) + x) g.constraints) (held_in t lsp (y + x) h.constraints)) e start
      (held_tighter (segment_length n) (last_start 0 (n ∷ r) + x) k))
      (along_tighter x a more)

  -- from a speed that is not higher
  pub restrictions_tighter : (x : ℕ) {v w : ℕ} {r s : List (List ℕ)} {g h : List Leg} → v ≤ w → AsLong r s → LegsTighter g h
      → lowest v (held_restrictions u x r g) ≤ lowest w (held_restrictions t x s h)
  restrictions_tighter x i a k = lowest_under i (along_tighter x a k)

-- ---- the legs that are travelled

module _ {A : Type 0} {R : A → A → Type 0} where
  two_drop : (n : ℕ) {g h : List A} → EachTwo R g h → EachTwo R (drop n g) (drop n h)
  two_drop zero a = a
  two_drop (suc n) EachTwo.none = EachTwo.none
  two_drop (suc n) (EachTwo.another a r) = two_drop n r

  two_take : (n : ℕ) {g h : List A} → EachTwo R g h → EachTwo R (take n g) (take n h)
  two_take zero a = EachTwo.none
  two_take (suc n) EachTwo.none = EachTwo.none
  two_take (suc n) (EachTwo.another a r) = EachTwo.another a (two_take n r)

pub travelled_tighter : (count leg : ℕ) {g h : List Leg} → LegsTighter g h → LegsTighter (travelled_legs count leg g) (travelled_legs count leg h)
travelled_tighter count leg a = two_take count (two_drop (leg + 1 - count) a)

-- a journey restricts as it does itself
pub tighter_stays : (l : List Constraint) → Tighter l l
tighter_stays [] = Tighter.none
tighter_stays (c ∷ l) = Tighter.both c.type c.range c.start c.end c.q_front {v = c.speed} {w = c.speed} (omega arith) (tighter_stays l)

pub legs_stay : (g : List Leg) → LegsTighter g g
legs_stay [] = EachTwo.none
legs_stay (h ∷ g) = EachTwo.another (tighter_stays h.constraints) (legs_stay g)
