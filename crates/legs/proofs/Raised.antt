-- Speeds raised in the values of a journey are speeds raised in its constraints: the journey whose speeds are lower is the tighter one.
use mathlib.Core.Path.{◌≡◌, refl, sym, ap, ◌∙◌, subst, subst₂}
use mathlib.Core.List.{List, ◌∷◌}
use mathlib.Core.Option.{some}
use Prim.Native.Nat.{ℕ, zero, suc, ◌≤◌}
use native.Mathlib.Omega.{arith}
use lib.ListN.{drop}
use Rattle.kinds.specs.declared.Item.{Item}
use Rattle.kinds.specs.Kind.{Kind}
use Rattle.kinds.specs.Kinds.{speed}
use Rattle.kinds.specs.journey.Kinds.{d_tc_end_location, v_speed_level}
use Rattle.format.specs.Format.{Format, end, field, times, sheet_numbers}
use Rattle.format.specs.Conforming.{Conforming, also, InSheet}
use Rattle.grammar.specs.journey.Journey.{timing_point, temporary_constraint, journey_segment, journey_body, journey_fields, journey_sheet, constraints}
use Rattle.grammar.proofs.journey.Tree.{by_range, by_type}
use Rattle.speed.specs.Run.{EachTwo}
use Rattle.speed.specs.Faster.{RaisedTo, Raising, one}
use Rattle.speed.proofs.Lowering.{same_is}
use Rattle.legs.specs.Legs.{Constraint, constraint_of, constraints_of, after_constraints, after_points, leg_of, after_leg, legs_of, journey_legs}
use Rattle.legs.specs.Faster.{Tighter, LegsTighter}
use Rattle.legs.proofs.Opened.{counted, pick_constraints, pick_after}

-- ---- two values of one field

-- a kind of another width is no speed
other : (k : Kind) → (k.width ≡ 7 → ⊥) → k ≡ speed → ⊥
other k n e = n (ap (λ (j : Kind). j.width) e)

opened_two : {C : Type 0} {k : Kind} {next : ℕ → Format} {l m : List Item} → Conforming InSheet (field k next) l → Conforming InSheet (field k next) m → Raising (field k next) l m
    → ((i j : Item) (a b : List Item) → l ≡ i ∷ a → m ≡ j ∷ b → InSheet k i → InSheet k j → RaisedTo k i.sheet j.sheet
    → Conforming InSheet (next i.packet) a → Conforming InSheet (next j.packet) b → Raising (next i.packet) a b → C) → C
opened_two (also {i = i} {l = l} g c) (also {i = j} {l = m} h d) (one p r) f = f i j l m refl refl g h p c d r

-- where the kind is no speed, both are one value
opened_same : {C : Type 0} {k : Kind} {next : ℕ → Format} {l m : List Item} → (k ≡ speed → ⊥) → Conforming InSheet (field k next) l → Conforming InSheet (field k next) m
    → Raising (field k next) l m
    → ((i : Item) (a b : List Item) → l ≡ i ∷ a → m ≡ i ∷ b → InSheet k i → Conforming InSheet (next i.packet) a → Conforming InSheet (next i.packet) b → Raising (next i.packet) a b → C) → C
opened_same {k = k} {next = next} n c d r f =
    opened_two c d r λ i j a b p q g h v e e' rest.
    let s : j.sheet ≡ i.sheet = v.others n in
    let x = g.lowered in
    let y = h.lowered in
    let z : some j.packet ≡ some i.packet = cc in
    let w : j.packet ≡ i.packet = cc in
    let same : j ≡ i = λ t. record { sheet = s t; packet = w t } in
    f i a b p (q ∙ ap (λ (u : Item). u ∷ b) same) g e (subst (λ (u : ℕ). Conforming InSheet (next u) b) w e') rest

-- ---- parts of the tree

-- past the part that `after` leaves behind, in both
pub record Two (after : List ℕ → List ℕ) (f : Format) (l m : List Item) : Type 0 where
  pub rest : List Item
  pub more : List Item
  pub good : Conforming InSheet f rest
  pub fine : Conforming InSheet f more
  pub raising : Raising f rest more
  pub here : after (sheet_numbers l) ≡ sheet_numbers rest
  pub there : after (sheet_numbers m) ≡ sheet_numbers more

point_two : (f : Format) (l m : List Item) → Conforming InSheet (timing_point f) l → Conforming InSheet (timing_point f) m → Raising (timing_point f) l m → Two (drop 16) f l m
point_two f l0 m0 c0 d0 r0 =
    opened_same (other _ (omega arith)) c0 d0 r0 λ a l1 m1 p1 q1 _ c1 d1 r1. opened_same (other _ (omega arith)) c1 d1 r1 λ b l2 m2 p2 q2 _ c2 d2 r2.
    opened_same (other _ (omega arith)) c2 d2 r2 λ d l3 m3 p3 q3 _ c3 d3 r3. opened_same (other _ (omega arith)) c3 d3 r3 λ e l4 m4 p4 q4 _ c4 d4 r4.
    opened_same (other _ (omega arith)) c4 d4 r4 λ g l5 m5 p5 q5 _ c5 d5 r5. opened_same (other _ (omega arith)) c5 d5 r5 λ h l6 m6 p6 q6 _ c6 d6 r6.
    opened_same (other _ (omega arith)) c6 d6 r6 λ i l7 m7 p7 q7 _ c7 d7 r7. opened_same (other _ (omega arith)) c7 d7 r7 λ j l8 m8 p8 q8 _ c8 d8 r8.
    opened_same (other _ (omega arith)) c8 d8 r8 λ k l9 m9 p9 q9 _ c9 d9 r9. opened_same (other _ (omega arith)) c9 d9 r9 λ n l10 m10 p10 q10 _ c10 d10 r10.
    opened_same (other _ (omega arith)) c10 d10 r10 λ o l11 m11 p11 q11 _ c11 d11 r11. opened_same (other _ (omega arith)) c11 d11 r11 λ p l12 m12 p12 q12 _ c12 d12 r12.
    opened_same (other _ (omega arith)) c12 d12 r12 λ q l13 m13 p13 q13 _ c13 d13 r13. opened_same (other _ (omega arith)) c13 d13 r13 λ r l14 m14 p14 q14 _ c14 d14 r14.
    opened_same (other _ (omega arith)) c14 d14 r14 λ s l15 m15 p15 q15 _ c15 d15 r15. opened_same (other _ (omega arith)) c15 d15 r15 λ t l m p16 q16 _ c d r.
    rw (p1, p2, p3, p4, p5, p6, p7, p8, p9, p10, p11, p12, p13, p14, p15, p16, q1, q2, q3, q4, q5, q6, q7, q8, q9, q10, q11, q12, q13, q14, q15, q16)
    (record { rest = l; more = m; good = c; fine = d; raising = r; here = refl; there = refl })

points_two : (n : ℕ) (f : Format) (l m : List Item) → Conforming InSheet (times timing_point n f) l → Conforming InSheet (times timing_point n f) m → Raising (times timing_point n f) l m
    → Two (after_points n) f l m
unfolding times
points_two zero f l m c d r = record { rest = l; more = m; good = c; fine = d; raising = r; here = refl; there = refl }
points_two (suc n) f l m c d r =
    let p = point_two (times timing_point n f) l m c d r in
    let w = points_two n f p.rest p.more p.good p.fine p.raising in
    record {
      rest = w.rest;
      more = w.more;
      good = w.good;
      fine = w.fine;
      raising = w.raising;
      here = ap (after_points n) p.here ∙ w.here;
      there = ap (after_points n) p.there ∙ w.there;
    }

end_other : (range start : ℕ) → d_tc_end_location range start ≡ speed → ⊥
end_other range start = by_range (λ k. k ≡ speed → ⊥) range start (other _ (omega arith)) (other _ (omega arith))

-- a speed is raised, or is no speed and stays
level_raised : (type v w : ℕ) → RaisedTo (v_speed_level type) v w → v ≤ w
level_raised type v w =
    by_type (λ k. RaisedTo k v w → v ≤ w) type (λ r. r.speeds refl)
    (λ r. let e : w ≡ v = r.others (λ q. let z : 0 ≡ 120 = ap (λ (k : Kind). k.largest) q in omega arith) in omega arith)

-- a constraint that is raised, in front of others
abbrev Front : Constraint → Constraint → Type 0
Front c d = (l m : List Constraint) → Tighter l m → Tighter (c ∷ l) (d ∷ m)

pub record TwoConstraints (f : Format) (l m : List Item) : Type 0 where
  pub passed : Two (drop 8) f l m
  pub front : Front (constraint_of (sheet_numbers l)) (constraint_of (sheet_numbers m))

constraint_two : (f : Format) (l m : List Item) → Conforming InSheet (temporary_constraint f) l → Conforming InSheet (temporary_constraint f) m → Raising (temporary_constraint f) l m
    → TwoConstraints f l m
constraint_two f l0 m0 c0 d0 r0 =
    opened_same (other _ (omega arith)) c0 d0 r0 λ type l1 m1 p1 q1 _ c1 d1 r1. opened_same (other _ (omega arith)) c1 d1 r1 λ range l2 m2 p2 q2 _ c2 d2 r2.
    opened_same (other _ (omega arith)) c2 d2 r2 λ start l3 m3 p3 q3 _ c3 d3 r3. opened_same (end_other range.packet start.packet) c3 d3 r3 λ stop l4 m4 p4 q4 _ c4 d4 r4.
    opened_same (other _ (omega arith)) c4 d4 r4 λ front l5 m5 p5 q5 _ c5 d5 r5. opened_two c5 d5 r5 λ v w l6 m6 p6 q6 _ _ up c6 d6 r6.
    opened_same (other _ (omega arith)) c6 d6 r6 λ a l7 m7 p7 q7 _ c7 d7 r7. opened_same (other _ (omega arith)) c7 d7 r7 λ b l m p8 q8 _ c d r.
    rw (p1, p2, p3, p4, p5, p6, p7, p8, q1, q2, q3, q4, q5, q6, q7, q8)
    (record {
      passed = record { rest = l; more = m; good = c; fine = d; raising = r; here = refl; there = refl };
      front = λ x y t. Tighter.both type.sheet range.sheet start.sheet stop.sheet front.sheet (level_raised type.packet v.sheet w.sheet up) t;
    })

pub record TwoLists (n : ℕ) (f : Format) (l m : List Item) : Type 0 where
  pub passed : Two (after_constraints n) f l m
  pub tighter : Tighter (constraints_of n (sheet_numbers l)) (constraints_of n (sheet_numbers m))

constraints_two : (n : ℕ) (f : Format) (l m : List Item) → Conforming InSheet (times temporary_constraint n f) l → Conforming InSheet (times temporary_constraint n f) m
    → Raising (times temporary_constraint n f) l m → TwoLists n f l m
unfolding times
constraints_two zero f l m c d r = record { passed = record { rest = l; more = m; good = c; fine = d; raising = r; here = refl; there = refl }; tighter = Tighter.none }
constraints_two (suc n) f l m c d r =
    let o = constraint_two (times temporary_constraint n f) l m c d r in
    let p = o.passed in
    let w = constraints_two n f p.rest p.more p.good p.fine p.raising in
    let q = w.passed in
    record {
      passed = record {
        rest = q.rest;
        more = q.more;
        good = q.good;
        fine = q.fine;
        raising = q.raising;
        here = ap (after_constraints n) p.here ∙ q.here;
        there = ap (after_constraints n) p.there ∙ q.there;
      };
      tighter = o.front (constraints_of n (drop 8 (sheet_numbers l))) (constraints_of n (drop 8 (sheet_numbers m)))
          (subst₂ (λ (a b : List ℕ). Tighter (constraints_of n a) (constraints_of n b)) (sym p.here) (sym p.there) w.tighter);
    }

-- ---- legs

pub record TwoCounted (f : Format) (l m : List Item) : Type 0 where
  pub passed : Two pick_after f l m
  pub tighter : Tighter (pick_constraints (sheet_numbers l)) (pick_constraints (sheet_numbers m))

counted_two : (f : Format) (l m : List Item) → Conforming InSheet (counted f) l → Conforming InSheet (counted f) m → Raising (counted f) l m → TwoCounted f l m
counted_two f l0 m0 c0 d0 r0 =
    opened_same (other _ (omega arith)) c0 d0 r0 λ n l m p q g c d r.
    let e : n.packet ≡ n.sheet = same_is n g in
    let w = constraints_two n.packet f l m c d r in
    let t = w.passed in
    rw (p, q)
    (record {
      passed = record {
        rest = t.rest;
        more = t.more;
        good = t.good;
        fine = t.fine;
        raising = t.raising;
        here = ap (λ (z : ℕ). after_constraints z (sheet_numbers l)) (sym e) ∙ t.here;
        there = ap (λ (z : ℕ). after_constraints z (sheet_numbers m)) (sym e) ∙ t.there;
      };
      tighter = subst (λ (z : ℕ). Tighter (constraints_of z (sheet_numbers l)) (constraints_of z (sheet_numbers m))) e w.tighter;
    })

pub record TwoLegs (f : Format) (l m : List Item) : Type 0 where
  pub passed : Two after_leg f l m
  pub tighter : Tighter (leg_of (sheet_numbers l)).constraints (leg_of (sheet_numbers m)).constraints

leg_two : (f : Format) (l m : List Item) → Conforming InSheet (journey_segment constraints f) l → Conforming InSheet (journey_segment constraints f) m → Raising (journey_segment constraints f) l m
    → TwoLegs f l m
leg_two f l0 m0 c0 d0 r0 =
    opened_same (other _ (omega arith)) c0 d0 r0 λ a l1 m1 p1 q1 _ c1 d1 r1. opened_same (other _ (omega arith)) c1 d1 r1 λ b l2 m2 p2 q2 _ c2 d2 r2.
    opened_same (other _ (omega arith)) c2 d2 r2 λ d l3 m3 p3 q3 _ c3 d3 r3. opened_same (other _ (omega arith)) c3 d3 r3 λ e l4 m4 p4 q4 _ c4 d4 r4.
    opened_same (other _ (omega arith)) c4 d4 r4 λ g l5 m5 p5 q5 _ c5 d5 r5. opened_same (other _ (omega arith)) c5 d5 r5 λ n l m p6 q6 h c6 d6 r6.
    let p = points_two n.packet (counted f) l m c6 d6 r6 in
    let w = counted_two f p.rest p.more p.good p.fine p.raising in
    let t = w.passed in
    let same : n.packet ≡ n.sheet = same_is n h in
    let here : after_points n.sheet (sheet_numbers l) ≡ sheet_numbers p.rest = ap (λ (z : ℕ). after_points z (sheet_numbers l)) (sym same) ∙ p.here in
    let there : after_points n.sheet (sheet_numbers m) ≡ sheet_numbers p.more = ap (λ (z : ℕ). after_points z (sheet_numbers m)) (sym same) ∙ p.there in
    rw (p1, p2, p3, p4, p5, p6, q1, q2, q3, q4, q5, q6)
    (record {
      passed = record { rest = t.rest; more = t.more; good = t.good; fine = t.fine; raising = t.raising; here = ap pick_after here ∙ t.here; there = ap pick_after there ∙ t.there };
      tighter = subst₂ (λ (x y : List ℕ). Tighter (pick_constraints x) (pick_constraints y)) (sym here) (sym there) w.tighter;
    })

legs_two : (n : ℕ) (l m : List Item) → Conforming InSheet (times (journey_segment constraints) n end) l → Conforming InSheet (times (journey_segment constraints) n end) m
    → Raising (times (journey_segment constraints) n end) l m → LegsTighter (legs_of n (sheet_numbers l)) (legs_of n (sheet_numbers m))
unfolding times
legs_two zero l m c d r = EachTwo.none
legs_two (suc n) l m c d r =
    let w = leg_two (times (journey_segment constraints) n end) l m c d r in
    let p = w.passed in
    EachTwo.another w.tighter
    (subst₂ (λ (a b : List ℕ). LegsTighter (legs_of n a) (legs_of n b)) (sym p.here) (sym p.there) (legs_two n p.rest p.more p.good p.fine p.raising))

-- the journey whose speeds are not raised is the tighter one
pub journey_raised : (l m : List Item) → Conforming InSheet (journey_sheet constraints) l → Conforming InSheet (journey_sheet constraints) m → Raising (journey_sheet constraints) l m
    → LegsTighter (journey_legs (sheet_numbers l)) (journey_legs (sheet_numbers m))
unfolding journey_sheet journey_fields journey_body
journey_raised l0 m0 c0 d0 r0 =
    opened_same (other _ (omega arith)) c0 d0 r0 λ a l1 m1 p1 q1 _ c1 d1 r1. opened_same (other _ (omega arith)) c1 d1 r1 λ b l2 m2 p2 q2 _ c2 d2 r2.
    opened_same (other _ (omega arith)) c2 d2 r2 λ d l3 m3 p3 q3 _ c3 d3 r3. opened_same (other _ (omega arith)) c3 d3 r3 λ e l4 m4 p4 q4 _ c4 d4 r4.
    opened_same (other _ (omega arith)) c4 d4 r4 λ g l5 m5 p5 q5 _ c5 d5 r5. opened_same (other _ (omega arith)) c5 d5 r5 λ h l6 m6 p6 q6 _ c6 d6 r6.
    opened_same (other _ (omega arith)) c6 d6 r6 λ i l7 m7 p7 q7 _ c7 d7 r7. opened_same (other _ (omega arith)) c7 d7 r7 λ n l m p8 q8 k c8 d8 r8.
    let same : n.packet ≡ n.sheet = same_is n k in
    rw (p1, p2, p3, p4, p5, p6, p7, p8, q1, q2, q3, q4, q5, q6, q7, q8)
    (subst (λ (z : ℕ). LegsTighter (legs_of z (sheet_numbers l)) (legs_of z (sheet_numbers m))) same (legs_two n.packet l m c8 d8 r8))
