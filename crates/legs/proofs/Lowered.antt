-- The legs of a journey's values as its packet gives them back are its legs with the speeds lowered.
use mathlib.Core.List.{[]}
use mathlib.Core.Path.{◌≡◌, refl, sym, ap, ap₂, ◌∙◌}
use mathlib.Core.List.{List, ◌∷◌, map}
use Prim.Native.Nat.{ℕ, zero, suc}
use native.Mathlib.Omega.{arith}
use lib.Dec.{lit<}
use lib.ListN.{drop}
use Rattle.kinds.specs.declared.Item.{Item}
use Rattle.kinds.specs.journey.Kinds.{d_tc_end_location, v_speed_level}
use Rattle.fields.proofs.Lawful.{narrow, up_to_lawful, speed_lowered}
use Rattle.format.specs.Format.{Format, end, times, sheet_numbers}
use Rattle.format.specs.Conforming.{Conforming, also, InSheet, given_back}
use Rattle.grammar.specs.journey.Journey.{timing_point, temporary_constraint, journey_segment, journey_body, journey_fields, journey_sheet, constraints}
use Rattle.grammar.proofs.journey.Tree.{by_range, by_type}
use Rattle.speed.specs.Speed.{in_fives}
use Rattle.speed.proofs.Lowering.{same_is}
use Rattle.legs.specs.Legs.{Constraint, Leg, constraint_of, constraints_of, after_constraints, after_points, leg_of, after_leg, legs_of, journey_legs}
use Rattle.legs.specs.internal.Lowered.{constraint_in_fives, leg_in_fives}
use Rattle.legs.proofs.Opened.{opened, counted, pick_constraints, pick_after}

-- ---- through the journey's tree

-- past the part that after leaves behind
pub record Passed (after : List ℕ → List ℕ) (whole f : Format) (l : List Item) : Type 0 where
  pub rest : List Item
  pub good : Conforming InSheet f rest
  pub here : after (sheet_numbers l) ≡ sheet_numbers rest
  pub there : after (sheet_numbers (given_back whole l)) ≡ sheet_numbers (given_back f rest)

point_passed : (f : Format) (l : List Item) → Conforming InSheet (timing_point f) l → Passed (drop 16) (timing_point f) f l
point_passed f l0 c0 =
    opened c0 λ a l1 p1 g1 c1. opened c1 λ b l2 p2 g2 c2. opened c2 λ d l3 p3 g3 c3. opened c3 λ e l4 p4 g4 c4.
    opened c4 λ g l5 p5 g5 c5. opened c5 λ h l6 p6 g6 c6. opened c6 λ i l7 p7 g7 c7. opened c7 λ j l8 p8 g8 c8.
    opened c8 λ k l9 p9 g9 c9. opened c9 λ m l10 p10 g10 c10. opened c10 λ o l11 p11 g11 c11. opened c11 λ p l12 p12 g12 c12.
    opened c12 λ q l13 p13 g13 c13. opened c13 λ r l14 p14 g14 c14. opened c14 λ s l15 p15 g15 c15. opened c15 λ t l p16 g16 c.
    rw (p1, p2, p3, p4, p5, p6, p7, p8, p9, p10, p11, p12, p13, p14, p15, p16)
    (record { rest = l; good = c; here = refl; there = refl })

points_passed : (n : ℕ) (f : Format) (l : List Item) → Conforming InSheet (times timing_point n f) l → Passed (after_points n) (times timing_point n f) f l
unfolding times
points_passed zero f l c = record { rest = l; good = c; here = refl; there = refl }
points_passed (suc n) f l c =
    let p = point_passed (times timing_point n f) l c in
    let w = points_passed n f p.rest p.good in
    record { rest = w.rest; good = w.good; here = ap (after_points n) p.here ∙ w.here; there = ap (after_points n) p.there ∙ w.there }

end_is : (range start : ℕ) (i : Item) → InSheet (d_tc_end_location range start) i → (d_tc_end_location range start).raise i.packet ≡ i.sheet
end_is range start i = by_range (λ k. InSheet k i → k.raise i.packet ≡ i.sheet) range start (λ g. same_is i g) (λ g. same_is i g)

level_is : (type : ℕ) (i : Item) → InSheet (v_speed_level type) i → (v_speed_level type).raise i.packet ≡ in_fives i.sheet
level_is type i =
    by_type (λ k. InSheet k i → k.raise i.packet ≡ in_fives i.sheet) type (λ g. speed_lowered i.sheet i.packet g.lowered)
    (λ g. let h = (up_to_lawful 7 0 (narrow tt) (lit< tt)).top i.sheet i.packet g.lowered in let e : i.packet ≡ i.sheet = same_is i g in omega arith)

pub record OneConstraint (f : Format) (l : List Item) : Type 0 where
  pub passed : Passed (drop 8) (temporary_constraint f) f l
  pub low : constraint_of (sheet_numbers (given_back (temporary_constraint f) l)) ≡ constraint_in_fives (constraint_of (sheet_numbers l))

constraint_lowered : (f : Format) (l : List Item) → Conforming InSheet (temporary_constraint f) l → OneConstraint f l
constraint_lowered f l0 c0 =
    opened c0 λ type l1 p1 g1 c1. opened c1 λ range l2 p2 g2 c2. opened c2 λ start l3 p3 g3 c3. opened c3 λ stop l4 p4 g4 c4.
    opened c4 λ front l5 p5 g5 c5. opened c5 λ v l6 p6 g6 c6. opened c6 λ a l7 p7 g7 c7. opened c7 λ b l p8 g8 c.
    let e1 : type.packet ≡ type.sheet = same_is type g1 in
    let e2 : range.packet ≡ range.sheet = same_is range g2 in
    let e3 : start.packet ≡ start.sheet = same_is start g3 in
    let e4 = end_is range.packet start.packet stop g4 in
    let e5 : front.packet ≡ front.sheet = same_is front g5 in
    let e6 = level_is type.packet v g6 in
    rw (p1, p2, p3, p4, p5, p6, p7, p8)
    (record {
      passed = record { rest = l; good = c; here = refl; there = refl };
      low = λ j. record { type = e1 j; range = e2 j; start = e3 j; end = e4 j; q_front = e5 j; speed = e6 j };
    })

pub record Constraints (n : ℕ) (f : Format) (l : List Item) : Type 0 where
  pub passed : Passed (after_constraints n) (times temporary_constraint n f) f l
  pub low : constraints_of n (sheet_numbers (given_back (times temporary_constraint n f) l)) ≡ map constraint_in_fives (constraints_of n (sheet_numbers l))

constraints_lowered : (n : ℕ) (f : Format) (l : List Item) → Conforming InSheet (times temporary_constraint n f) l → Constraints n f l
unfolding times
constraints_lowered zero f l c = record { passed = record { rest = l; good = c; here = refl; there = refl }; low = refl }
constraints_lowered (suc n) f l c =
    let o = constraint_lowered (times temporary_constraint n f) l c in
    let p = o.passed in
    let w = constraints_lowered n f p.rest p.good in
    let q = w.passed in
    record {
      passed = record {
        rest = q.rest;
        good = q.good;
        here = ap (after_constraints n) p.here ∙ q.here;
        there = ap (after_constraints n) p.there ∙ q.there;
      };
      low = ap₂ (λ (a : Constraint) (r : List Constraint). a ∷ r) o.low
          (ap (constraints_of n) p.there ∙ w.low ∙ ap (λ (s : List ℕ). map constraint_in_fives (constraints_of n s)) (sym p.here));
    }

pub record Counted (f : Format) (l : List Item) : Type 0 where
  pub passed : Passed pick_after (counted f) f l
  pub low : pick_constraints (sheet_numbers (given_back (counted f) l)) ≡ map constraint_in_fives (pick_constraints (sheet_numbers l))

counted_lowered : (f : Format) (l : List Item) → Conforming InSheet (counted f) l → Counted f l
counted_lowered f [] x' = elim x' [ ]
counted_lowered f (m ∷ l) (also gm c) =
    let w = constraints_lowered m.packet f l c in
    let p = w.passed in
    let em : m.packet ≡ m.sheet = same_is m gm in
    record {
      passed = record { rest = p.rest; good = p.good; here = ap (λ (z : ℕ). after_constraints z (sheet_numbers l)) (sym em) ∙ p.here; there = p.there };
      low = w.low ∙ ap (λ (z : ℕ). map constraint_in_fives (constraints_of z (sheet_numbers l))) em;
    }

pub record Lowered (f : Format) (l : List Item) : Type 0 where
  pub passed : Passed after_leg (journey_segment constraints f) f l
  pub low : leg_of (sheet_numbers (given_back (journey_segment constraints f) l)) ≡ leg_in_fives (leg_of (sheet_numbers l))

leg_lowered : (f : Format) (l : List Item) → Conforming InSheet (journey_segment constraints f) l → Lowered f l
leg_lowered f l0 c0 =
    opened c0 λ c l1 p1 g1 c1. opened c1 λ s l2 p2 g2 c2. opened c2 λ a l3 p3 g3 c3. opened c3 λ b l4 p4 g4 c4.
    opened c4 λ d l5 p5 g5 c5. opened c5 λ n l p6 g6 r.
    let p = points_passed n.packet (counted f) l r in
    let w = counted_lowered f p.rest p.good in
    let e1 : c.packet ≡ c.sheet = same_is c g1 in
    let e2 : s.packet ≡ s.sheet = same_is s g2 in
    let e3 : a.packet ≡ a.sheet = same_is a g3 in
    let e4 : b.packet ≡ b.sheet = same_is b g4 in
    let e5 : d.packet ≡ d.sheet = same_is d g5 in
    let e6 : n.packet ≡ n.sheet = same_is n g6 in
    let here : after_points n.sheet (sheet_numbers l) ≡ sheet_numbers p.rest = ap (λ (z : ℕ). after_points z (sheet_numbers l)) (sym e6) ∙ p.here in
    let low = ap pick_constraints p.there ∙ w.low ∙ ap (λ (z : List ℕ). map constraint_in_fives (pick_constraints z)) (sym here) in
    rw (p1, p2, p3, p4, p5, p6)
    (record {
      passed = record {
        rest = w.passed.rest;
        good = w.passed.good;
        here = ap pick_after here ∙ w.passed.here;
        there = ap pick_after p.there ∙ w.passed.there;
      };
      low = λ j. record { nid_c = e1 j; nid_sp = e2 j; major = e3 j; minor = e4 j; direction = e5 j; constraints = low j };
    })

legs_lowered : (n : ℕ) (l : List Item) → Conforming InSheet (times (journey_segment constraints) n end) l
    → legs_of n (sheet_numbers (given_back (times (journey_segment constraints) n end) l)) ≡ map leg_in_fives (legs_of n (sheet_numbers l))
unfolding times
legs_lowered zero l c = refl
legs_lowered (suc n) l c =
    let w = leg_lowered (times (journey_segment constraints) n end) l c in
    let p = w.passed in
    ap₂ (λ (g : Leg) (r : List Leg). g ∷ r) w.low
    (ap (legs_of n) p.there ∙ legs_lowered n p.rest p.good ∙ ap (λ (s : List ℕ). map leg_in_fives (legs_of n s)) (sym p.here))

-- the segments of a journey's values as its packet gives them back
pub journey_lowered : (l : List Item) → Conforming InSheet (journey_sheet constraints) l
    → journey_legs (sheet_numbers (given_back (journey_sheet constraints) l)) ≡ map leg_in_fives (journey_legs (sheet_numbers l))
unfolding journey_sheet journey_fields journey_body
journey_lowered l0 c0 =
    opened c0 λ a l1 p1 g1 c1. opened c1 λ b l2 p2 g2 c2. opened c2 λ d l3 p3 g3 c3. opened c3 λ e l4 p4 g4 c4.
    opened c4 λ g l5 p5 g5 c5. opened c5 λ h l6 p6 g6 c6. opened c6 λ i l7 p7 g7 c7. opened c7 λ n l p8 g8 c.
    let en : n.packet ≡ n.sheet = same_is n g8 in
    rw (p1, p2, p3, p4, p5, p6, p7, p8)
    (legs_lowered n.packet l c ∙ ap (λ (z : ℕ). map leg_in_fives (legs_of z (sheet_numbers l))) en)
