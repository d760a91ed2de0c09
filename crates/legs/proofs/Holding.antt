-- The speeds that are taken are exactly those of the constraints that hold.
use mathlib.Core.Path.{◌≡◌, refl}
use mathlib.Core.Bool.{true, ◌&&◌}
use mathlib.Core.List.{List, [], ◌∷◌, ◌++◌}
use mathlib.Core.Logic.{◌↔◌}
use Prim.Native.Nat.{ℕ, ◌+◌, ◌<◌}
use native.Mathlib.Omega.{arith}
use borrow.Author.Tests.{eqb-true, eqb-false, eq-eqb, ne_eqb, leb-true, le-leb, ltb-true, lt-ltb}
use lib.Dec.{eqb, ltb, leb}
use Rattle.bits.proofs.Tests.{by_cases, and_left, and_right}
use Rattle.format.specs.Grounds.{Among, first, later}
use Rattle.speed.specs.declared.Train.{Train}
use Rattle.speed.specs.Speed.{segment_length}
use Rattle.speed.specs.Run.{last_start}
use Rattle.legs.specs.Legs.{Constraint, Leg}
use Rattle.legs.specs.Restricted.{begins_at, stops_at, held_until, holds_at, held_in, held_restrictions}
use Rattle.legs.specs.Holding.{Stretch, Before, Holds, HeldIn, this, next, HeldAlong}

-- ---- one constraint

module _ (t : Train) (lsp y : ℕ) (c : Constraint) where
  stretch_there : Stretch lsp c (begins_at c) (stops_at lsp c)
  stretch_there =
      by_cases (eqb c.range 0)
      (λ a. let e = eqb-true c.range 0 a in Stretch.starts e (rw e) (rw e))
      (λ a. by_cases (eqb c.range 1)
      (λ b. let e = eqb-true c.range 1 b in Stretch.ends e (rw e) (rw e))
      (λ b. by_cases (eqb c.range 2)
      (λ d. let e = eqb-true c.range 2 d in Stretch.both e (rw e) (rw e))
      (λ d. Stretch.whole (eqb-false c.range 0 a) (eqb-false c.range 1 b) (eqb-false c.range 2 d) (rw (a, d)) (rw (b, d)))))

  stretch_only : {from to : ℕ} → Stretch lsp c from to → (from ≡ begins_at c) × (to ≡ stops_at lsp c)
  stretch_only (Stretch.starts r e f) = (rw (r, e), rw (r, f))
  stretch_only (Stretch.ends r e f) = (rw (r, e), rw (r, f))
  stretch_only (Stretch.both r e f) = (rw (r, e), rw (r, f))
  stretch_only (Stretch.whole a b d e f) = (rw (ne_eqb c.range 0 a, ne_eqb c.range 2 d, e), rw (ne_eqb c.range 1 b, ne_eqb c.range 2 d, f))

  before_there : y < held_until t lsp c → Before t c (stops_at lsp c) y
  before_there h = by_cases (eqb c.q_front 0) (λ d. Before.delayed (eqb-true c.q_front 0 d) (rw d at h)) (λ d. Before.inside (rw d at h))

  before_only : Before t c (stops_at lsp c) y → y < held_until t lsp c
  before_only (Before.inside h) = by_cases (eqb c.q_front 0) (λ d. rw d (omega arith)) (λ d. rw d h)
  before_only (Before.delayed e h) = rw e h

  holds_true : Holds t lsp y c → holds_at t lsp y c ≡ true
  holds_true h =
      let p = stretch_only h.stretch in
      let b = h.begun in
      let u = before_only (rw p.1 at h.before) in
      rw (eq-eqb c.type 0 h.speeds, le-leb (begins_at c) y (omega (arith, p.0)), lt-ltb y (held_until t lsp c) u)

  true_holds : holds_at t lsp y c ≡ true → Holds t lsp y c
  true_holds e =
      let begun = leb (begins_at c) y in
      let until = ltb y (held_until t lsp c) in
      let both = and_right (eqb c.type 0) (begun && until) e in
      record {
        speeds = eqb-true c.type 0 (and_left (eqb c.type 0) (begun && until) e);
        from = begins_at c;
        to = stops_at lsp c;
        stretch = stretch_there;
        begun = leb-true (begins_at c) y (and_left begun until both);
        before = before_there (ltb-true y (held_until t lsp c) (and_right begun until both));
      }

-- ---- among the speeds

among_cons : {C : Type 0} {v w : ℕ} {l : List ℕ} → Among v (w ∷ l) → (v ≡ w → C) → (Among v l → C) → C
among_cons first f g = f refl
among_cons (later a) f g = g a

among_none : {v : ℕ} {l : List ℕ} → Among v l → l ≡ [] → ⊥
among_none first e = let z : ◌≡◌ {A = ℕ} 0 1 = cc in omega arith
among_none (later a) e = let z : ◌≡◌ {A = ℕ} 0 1 = cc in omega arith

among_left : {v : ℕ} {l : List ℕ} (m : List ℕ) → Among v l → Among v (l ++ m)
among_left m first = first
among_left m (later a) = later (among_left m a)

among_right : {v : ℕ} (l : List ℕ) {m : List ℕ} → Among v m → Among v (l ++ m)
among_right [] a = a
among_right (w ∷ l) a = later (among_right l a)

among_either : {C : Type 0} {v : ℕ} (l : List ℕ) {m : List ℕ} → Among v (l ++ m) → (Among v l → C) → (Among v m → C) → C
among_either [] a f g = g a
among_either (w ∷ l) a f g = among_cons a (λ e. f (rw e first)) (λ b. among_either l b (λ c. f (later c)) g)

-- ---- a segment's, and a run's

module _ (t : Train) (lsp y : ℕ) where
  in_there : {v : ℕ} {l : List Constraint} → HeldIn t lsp y v l → Among v (held_in t lsp y l)
  in_there (this {c = c} {l = l} h e) = rw (holds_true t lsp y c h, e) first
  in_there (next {c = c} {l = l} h) = by_cases (holds_at t lsp y c) (λ d. rw d (later (in_there h))) (λ d. rw d (in_there h))

  in_back : (v : ℕ) (l : List Constraint) → Among v (held_in t lsp y l) → HeldIn t lsp y v l
  in_back v [] a = absurd (among_none a refl)
  in_back v (c ∷ l) a =
      by_cases (holds_at t lsp y c)
      (λ d. among_cons (rw d at a) (λ e. this (true_holds t lsp y c d) e) (λ b. next (in_back v l b)))
      (λ d. next (in_back v l (rw d at a)))

module _ (t : Train) (x v : ℕ) where
  along_there : {r : List (List ℕ)} {g : List Leg} → HeldAlong t x v r g → Among v (held_restrictions t x r g)
  along_there (HeldAlong.here {s = s} {r = r} {g = g} {l = l} h) = among_left (held_restrictions t x r l) (in_there t (segment_length s) (last_start 0 (s ∷ r) + x) h)
  along_there (HeldAlong.later {s = s} {r = r} {g = g} {l = l} h) = among_right (held_in t (segment_length s) (last_start 0 (s ∷ r) + x) g.constraints) (along_there h)

  along_back : (r : List (List ℕ)) (g : List Leg) → Among v (held_restrictions t x r g) → HeldAlong t x v r g
  along_back [] g a = absurd (among_none a refl)
  along_back (s ∷ r) [] a = absurd (among_none a refl)
  along_back (s ∷ r) (h ∷ g) a =
      let y = last_start 0 (s ∷ r) + x in
      among_either (held_in t (segment_length s) y h.constraints) a (λ b. HeldAlong.here (in_back t (segment_length s) y v h.constraints b)) (λ b. HeldAlong.later (along_back r g b))

  -- a speed is taken exactly when it is that of a constraint that holds
  pub held_exactly : (r : List (List ℕ)) (g : List Leg) → Among v (held_restrictions t x r g) ↔ HeldAlong t x v r g
  held_exactly r g = (along_back r g, λ h. along_there h)

-- where none holds none is taken
pub none_held : (t : Train) (x : ℕ) (r : List (List ℕ)) (g : List Leg) → ((v : ℕ) → HeldAlong t x v r g → ⊥) → held_restrictions t x r g ≡ []
none_held t x r g n = go (held_restrictions t x r g) refl
  where
    go : (l : List ℕ) → held_restrictions t x r g ≡ l → held_restrictions t x r g ≡ []
    go [] e = e
    go (v ∷ l) e = absurd (n v ((held_exactly t x v r g).0 (rw e first)))
