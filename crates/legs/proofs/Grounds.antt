-- A run on a journey is refused exactly on its grounds: the tests of the definitions against their words.
use mathlib.Core.Path.{◌≡◌, refl, sym, ◌∙◌}
use mathlib.Core.Bool.{Bool, true, false, ◌&&◌, ◌||◌, not}
use mathlib.Core.List.{List, [], ◌∷◌}
use mathlib.Core.Logic.{◌⊎◌, inl, inr}
use Prim.Native.Nat.{ℕ, ◌+◌, ◌-◌, ◌≤◌}
use native.Mathlib.Omega.{arith}
use borrow.Author.Tests.{eqb-true, eqb-false, eq-eqb, ne_eqb, leb-true, leb-false, le-leb, lt-leb, ltb-true, ltb-false, lt-ltb, le-ltb}
use lib.Dec.{eqb, ltb, leb}
use lib.ListN.{length, get_or, drop, length-drop}
use lib.Seq.{length-take-le}
use Rattle.bits.proofs.Tests.{by_cases, and_left, and_right, or_cases}
use Rattle.speed.specs.declared.Train.{Train}
use Rattle.speed.specs.Speed.{segment_length}
use Rattle.speed.specs.Run.{EachTwo, last_start}
use Rattle.legs.specs.Legs.{Constraint, Leg}
use Rattle.legs.specs.Restricted.{uses_start, uses_end}
use Rattle.legs.specs.Travelled as test
use Rattle.legs.specs.Grounds.{OffJourney, past_last, before_first, OnJourney, Differs, Outside, SomeOutside, this, next, LegGround, LegFits, LegsGround, TailBefore}

never : {b : Bool} → b ≡ true → b ≡ false → ⊥
never p q = let z : ◌≡◌ {A = ℕ} 0 1 = cc in omega arith

and_cases : {C : Type 0} (a b : Bool) → (a && b) ≡ false → (a ≡ false → C) → (b ≡ false → C) → C
and_cases true b e f g = g e
and_cases false b e f g = f refl

and_no_right : (a b : Bool) → b ≡ false → (a && b) ≡ false
and_no_right true b e = e
and_no_right false b e = refl

or_right : (a b : Bool) → b ≡ true → (a || b) ≡ true
or_right true b e = refl
or_right false b e = e

not_true : (b : Bool) → not b ≡ true → b ≡ false
not_true true e = sym e
not_true false e = refl

not_false : (b : Bool) → not b ≡ false → b ≡ true
not_false true e = refl
not_false false e = sym e

-- ---- 22

module _ (count leg : ℕ) (l : List Leg) where
  pub on_journey_lem : test.on_journey count leg l ≡ true → OnJourney count leg l
  on_journey_lem e = record {
    inside = ltb-true leg (length l) (and_left (ltb leg (length l)) (leb count (leg + 1)) e);
    begins = leb-true count (leg + 1) (and_right (ltb leg (length l)) (leb count (leg + 1)) e);
  }

  pub off_journey_lem : test.on_journey count leg l ≡ false → OffJourney count leg l
  off_journey_lem e =
      and_cases (ltb leg (length l)) (leb count (leg + 1)) e (λ a. past_last (ltb-false leg (length l) a)) (λ a. before_first (leb-false count (leg + 1) a))

  pub journey_on : OnJourney count leg l → test.on_journey count leg l ≡ true
  journey_on h = rw (lt-ltb leg (length l) h.inside, le-leb count (leg + 1) h.begins)

  pub journey_off : OffJourney count leg l → test.on_journey count leg l ≡ false
  journey_off (past_last h) = rw (le-ltb leg (length l) h)
  journey_off (before_first h) = and_no_right (ltb leg (length l)) (leb count (leg + 1)) (lt-leb count (leg + 1) h)

  -- as many legs as the run has segments
  pub travelled_count : OnJourney count leg l → length (test.travelled_legs count leg l) ≡ count
  travelled_count h =
      let i = h.inside in
      let b = h.begins in
      length-take-le count (drop (leg + 1 - count) l) (omega (arith, length-drop (leg + 1 - count) l))

-- ---- 23

module _ (s : List ℕ) (g : Leg) where
  differs : test.same_segment s g ≡ false → Differs s g
  differs e =
      and_cases (eqb (get_or s 6 0) g.nid_c) _ e (λ d. Differs.country (eqb-false (get_or s 6 0) g.nid_c d)) λ e1.
      and_cases (eqb (get_or s 7 0) g.nid_sp) _ e1 (λ d. Differs.number (eqb-false (get_or s 7 0) g.nid_sp d)) λ e2.
      and_cases (eqb (get_or s 8 0) g.major) _ e2 (λ d. Differs.major (eqb-false (get_or s 8 0) g.major d)) λ e3.
      Differs.minor (eqb-false (get_or s 9 0) g.minor e3)

  differs_not : Differs s g → test.same_segment s g ≡ false
  differs_not (Differs.country n) = rw (ne_eqb (get_or s 6 0) g.nid_c n)
  differs_not (Differs.number n) = and_no_right (eqb (get_or s 6 0) g.nid_c) _ (rw (ne_eqb (get_or s 7 0) g.nid_sp n))
  differs_not (Differs.major n) =
      and_no_right (eqb (get_or s 6 0) g.nid_c) _ (and_no_right (eqb (get_or s 7 0) g.nid_sp) _ (rw (ne_eqb (get_or s 8 0) g.major n)))
  differs_not (Differs.minor n) =
      and_no_right (eqb (get_or s 6 0) g.nid_c) _ (and_no_right (eqb (get_or s 7 0) g.nid_sp) _
      (and_no_right (eqb (get_or s 8 0) g.major) _ (ne_eqb (get_or s 9 0) g.minor n)))

  same_not : test.same_segment s g ≡ true → Differs s g → ⊥
  same_not e d = never e (differs_not d)

  not_same : (Differs s g → ⊥) → test.same_segment s g ≡ true
  not_same n = by_cases (test.same_segment s g) (λ e. e) (λ e. absurd (n (differs e)))

-- ---- 25

uses : (r a b : ℕ) → (eqb r a || eqb r b) ≡ true → (r ≡ a) ⊎ (r ≡ b)
uses r a b e = or_cases (eqb r a) (eqb r b) e (λ d. inl (eqb-true r a d)) (λ d. inr (eqb-true r b d))

used : (r a b : ℕ) → (r ≡ a) ⊎ (r ≡ b) → (eqb r a || eqb r b) ≡ true
used r a b (inl e) = rw (eq-eqb r a e)
used r a b (inr e) = or_right (eqb r a) (eqb r b) (eq-eqb r b e)

module _ (lsp : ℕ) where
  outside_is : (c : Constraint) → test.outside lsp c ≡ true → Outside lsp c
  outside_is c e =
      or_cases (uses_start c && leb lsp c.start) _ e
      (λ d. Outside.start (uses c.range 0 2 (and_left (uses_start c) (leb lsp c.start) d)) (leb-true lsp c.start (and_right (uses_start c) (leb lsp c.start) d)))
      (λ d. let u = uses c.range 1 2 (and_left (uses_end c) (eqb c.end 0 || ltb lsp c.end) d) in
      or_cases (eqb c.end 0) (ltb lsp c.end) (and_right (uses_end c) (eqb c.end 0 || ltb lsp c.end) d)
      (λ f. Outside.no_end u (eqb-true c.end 0 f)) (λ f. Outside.end u (ltb-true lsp c.end f)))

  is_outside : (c : Constraint) → Outside lsp c → test.outside lsp c ≡ true
  is_outside c (Outside.start u h) = rw (used c.range 0 2 u, le-leb lsp c.start h)
  is_outside c (Outside.no_end u e) = or_right (uses_start c && leb lsp c.start) _ (rw (used c.range 1 2 u, eq-eqb c.end 0 e))
  is_outside c (Outside.end u h) =
      or_right (uses_start c && leb lsp c.start) _ (rw (used c.range 1 2 u, lt-ltb lsp c.end h) (or_right (eqb c.end 0) true refl))

  some_outside : (l : List Constraint) → test.all_inside lsp l ≡ false → SomeOutside lsp l
  some_outside [] e = absurd (never refl e)
  some_outside (c ∷ l) e =
      and_cases (not (eqb c.type 0 && test.outside lsp c)) (test.all_inside lsp l) e
      (λ d. let b = not_false (eqb c.type 0 && test.outside lsp c) d in
      this (eqb-true c.type 0 (and_left (eqb c.type 0) (test.outside lsp c) b)) (outside_is c (and_right (eqb c.type 0) (test.outside lsp c) b)))
      (λ d. next (some_outside l d))

  outside_some : {l : List Constraint} → SomeOutside lsp l → test.all_inside lsp l ≡ false
  outside_some (this {c = c} {l = l} e o) = rw (eq-eqb c.type 0 e, is_outside c o)
  outside_some (next {c = c} {l = l} o) = and_no_right (not (eqb c.type 0 && test.outside lsp c)) (test.all_inside lsp l) (outside_some o)

  inside_all : (l : List Constraint) → (SomeOutside lsp l → ⊥) → test.all_inside lsp l ≡ true
  inside_all l n = by_cases (test.all_inside lsp l) (λ e. e) (λ e. absurd (n (some_outside l e)))

-- ---- 23, 24, 25 of one segment

module _ (s : List ℕ) (g : Leg) where
  -- a segment fits, or has a ground and is refused on it
  leg_cases : {C : Type 0} → (LegFits s g → test.leg_refusal s g ≡ 0 → C) → ((q : ℕ) → LegGround s g q → test.leg_refusal s g ≡ q → 1 ≤ q → C) → C
  leg_cases f k =
      let lsp = segment_length s in
      by_cases (test.same_segment s g)
      (λ a. by_cases (eqb g.direction 1)
      (λ b. by_cases (test.all_inside lsp g.constraints)
      (λ d. f (record { same = same_not s g a; nominal = eqb-true g.direction 1 b; inside = λ o. never d (outside_some lsp o) }) (rw (a, b, d)))
      (λ d. k 25 (LegGround.outside (same_not s g a) (eqb-true g.direction 1 b) (some_outside lsp g.constraints d) refl) (rw (a, b, d)) (omega arith)))
      (λ b. k 24 (LegGround.reverse (same_not s g a) (eqb-false g.direction 1 b) refl) (rw (a, b)) (omega arith)))
      (λ a. k 23 (LegGround.other (differs s g a) refl) (rw a) (omega arith))

  leg_given : {q : ℕ} → LegGround s g q → (test.leg_refusal s g ≡ q) × (1 ≤ q)
  leg_given (LegGround.other d e) = (rw (differs_not s g d, e), omega arith)
  leg_given (LegGround.reverse n d e) = (rw (not_same s g n, ne_eqb g.direction 1 d, e), omega arith)
  leg_given (LegGround.outside n d o e) = (rw (not_same s g n, eq-eqb g.direction 1 d, outside_some (segment_length s) o, e), omega arith)

  leg_fits : LegFits s g → test.leg_refusal s g ≡ 0
  leg_fits h = rw (not_same s g h.same, eq-eqb g.direction 1 h.nominal, inside_all (segment_length s) g.constraints h.inside)

-- ---- of the run's segments, in order

first_none : (a b : ℕ) → a ≡ 0 → test.first_refusal a b ≡ b
first_none a b e = rw (eq-eqb a 0 e)

first_some : (a b : ℕ) → 1 ≤ a → test.first_refusal a b ≡ a
first_some a b h = rw (ne_eqb a 0 (λ e. omega arith))

-- all segments fit, or there is a ground and the run is refused on it
pub legs_cases : {C : Type 0} (r : List (List ℕ)) (g : List Leg) → length r ≡ length g → (EachTwo LegFits r g → test.legs_refusal r g ≡ 0 → C)
    → ((q : ℕ) → LegsGround q r g → test.legs_refusal r g ≡ q → 1 ≤ q → C) → C
legs_cases [] [] e f k = f EachTwo.none refl
legs_cases [] (h ∷ g) e f k = absurd (omega arith)
legs_cases (s ∷ r) [] e f k = absurd (omega arith)
legs_cases (s ∷ r) (h ∷ g) e f k =
    leg_cases s h
    (λ fits a. legs_cases r g (omega arith) (λ all b. f (EachTwo.another fits all) (first_none (test.leg_refusal s h) (test.legs_refusal r g) a ∙ b))
    (λ q ground b i. k q (LegsGround.later fits ground) (first_none (test.leg_refusal s h) (test.legs_refusal r g) a ∙ b) i))
    (λ q ground a i. k q (LegsGround.here ground) (first_some (test.leg_refusal s h) (test.legs_refusal r g) (omega arith) ∙ a) i)

pub legs_given : {q : ℕ} {r : List (List ℕ)} {g : List Leg} → LegsGround q r g → (test.legs_refusal r g ≡ q) × (1 ≤ q)
legs_given (LegsGround.here {s = s} {run = r} {g = g} {l = l} w) =
    let e = leg_given s g w in
    let i = e.1 in
    (first_some (test.leg_refusal s g) (test.legs_refusal r l) (omega (arith, e.0)) ∙ e.0, i)
legs_given (LegsGround.later {s = s} {run = r} {g = g} {l = l} h w) =
    let e = legs_given w in
    (first_none (test.leg_refusal s g) (test.legs_refusal r l) (leg_fits s g h) ∙ e.0, e.1)

pub legs_fit : {r : List (List ℕ)} {g : List Leg} → EachTwo LegFits r g → test.legs_refusal r g ≡ 0
legs_fit EachTwo.none = refl
legs_fit (EachTwo.another {a = s} {b = g} {r = r} {s = l} h w) = first_none (test.leg_refusal s g) (test.legs_refusal r l) (leg_fits s g h) ∙ legs_fit w

-- ---- 26

module _ (count leg : ℕ) (t : Train) (x : ℕ) (r : List (List ℕ)) where
  pub tail_before_lem : test.tail_before count leg t x r ≡ true → TailBefore count leg t x r
  tail_before_lem e =
      let a = ltb count (leg + 1) in
      let b = ltb (last_start 0 r + x) t.length in
      record { within = ltb-true count (leg + 1) (and_left a b e); short = ltb-true (last_start 0 r + x) t.length (and_right a b e) }

  pub before_tail : TailBefore count leg t x r → test.tail_before count leg t x r ≡ true
  before_tail h = rw (lt-ltb count (leg + 1) h.within, lt-ltb (last_start 0 r + x) t.length h.short)

  pub behind_tail : (TailBefore count leg t x r → ⊥) → test.tail_before count leg t x r ≡ false
  behind_tail n = by_cases (test.tail_before count leg t x r) (λ e. absurd (n (tail_before_lem e))) (λ e. e)
