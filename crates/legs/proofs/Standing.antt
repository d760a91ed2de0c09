-- The segments of a journey and their constraints stand where the tree has their fields, and no others do.
use mathlib.Core.Path.{◌≡◌, refl, sym, ap, ap₂, ◌∙◌, subst}
use mathlib.Core.List.{List, [], ◌∷◌, ◌++◌, append_assoc}
use Prim.Native.Nat.{ℕ, zero, suc}
use lib.ListN.{drop}
use Rattle.kinds.specs.declared.Item.{Item}
use Rattle.kinds.specs.Kind.{Kind}
use Rattle.kinds.specs.Kinds.{n_iter}
use Rattle.kinds.specs.journey.Kinds.{n_iter_sp}
use Rattle.format.specs.Format.{Format, end, times, sheet_numbers}
use Rattle.format.specs.Conforming.{Conforming, done, also, InPacket, InSheet}
use Rattle.format.specs.Grounds.{here, past}
use Rattle.grammar.specs.journey.Journey.{timing_point, temporary_constraint, journey_segment, journey_body, journey_fields, journey_sheet, constraints}
use Rattle.speed.proofs.Lowering.{same_is}
use Rattle.legs.specs.Legs.{Constraint, Leg, constraints_of, after_constraints, after_points, leg_of, after_leg, legs_of, journey_legs}
use Rattle.legs.specs.Standing.{ConstraintsStand, LegStands, LegsStand, JourneyStands}
use Rattle.legs.proofs.Opened.{opened, counted, pick_constraints, pick_after}

-- a count is one number in both media
module _ (Good : Kind → Item → Type 0) (count : (i : Item) → Good (n_iter 31) i → i.packet ≡ i.sheet) (legs : (i : Item) → Good n_iter_sp i → i.packet ≡ i.sheet) where
  -- ---- timing points

  pub record PointStood (f : Format) (l : List Item) : Type 0 where
    pub point : List Item
    pub follow : List Item
    pub split : l ≡ point ++ follow
    pub front : (g : Format) (z : List Item) → Conforming Good g z → Conforming Good (timing_point g) (point ++ z)
    pub good : Conforming Good f follow
    pub numbers : drop 16 (sheet_numbers l) ≡ sheet_numbers follow

  point_stands : (f : Format) (l : List Item) → Conforming Good (timing_point f) l → PointStood f l
  point_stands f l0 c0 =
      opened c0 λ a l1 p1 g1 c1. opened c1 λ b l2 p2 g2 c2. opened c2 λ d l3 p3 g3 c3. opened c3 λ e l4 p4 g4 c4.
      opened c4 λ g l5 p5 g5 c5. opened c5 λ h l6 p6 g6 c6. opened c6 λ i l7 p7 g7 c7. opened c7 λ j l8 p8 g8 c8.
      opened c8 λ k l9 p9 g9 c9. opened c9 λ m l10 p10 g10 c10. opened c10 λ o l11 p11 g11 c11. opened c11 λ p l12 p12 g12 c12.
      opened c12 λ q l13 p13 g13 c13. opened c13 λ r l14 p14 g14 c14. opened c14 λ s l15 p15 g15 c15. opened c15 λ t l p16 g16 c.
      rw (p1, p2, p3, p4, p5, p6, p7, p8, p9, p10, p11, p12, p13, p14, p15, p16)
      (record {
        point = a ∷ b ∷ d ∷ e ∷ g ∷ h ∷ i ∷ j ∷ k ∷ m ∷ o ∷ p ∷ q ∷ r ∷ s ∷ t ∷ [];
        follow = l;
        split = refl;
        front = λ u z w. (also g1 (also g2 (also g3 (also g4 (also g5 (also g6 (also g7 (also g8 (also g9 (also g10 (also g11 (also g12 (also g13 (also g14 (also g15 (also g16 w))))))))))))))));
        good = c;
        numbers = refl;
      })

  pub record PointsStood (n : ℕ) (f : Format) (l : List Item) : Type 0 where
    pub points : List Item
    pub follow : List Item
    pub split : l ≡ points ++ follow
    pub conform : Conforming Good (times timing_point n end) points
    pub good : Conforming Good f follow
    pub numbers : after_points n (sheet_numbers l) ≡ sheet_numbers follow

  points_stand : (n : ℕ) (f : Format) (l : List Item) → Conforming Good (times timing_point n f) l → PointsStood n f l
  unfolding times
  points_stand zero f l c = record { points = []; follow = l; split = refl; conform = done; good = c; numbers = refl }
  points_stand (suc n) f l c =
      let p = point_stands (times timing_point n f) l c in
      let w = points_stand n f p.follow p.good in
      record {
        points = p.point ++ w.points;
        follow = w.follow;
        split = p.split ∙ ap (λ (z : List Item). p.point ++ z) w.split ∙ sym (append_assoc p.point w.points w.follow);
        conform = p.front (times timing_point n end) w.points w.conform;
        good = w.good;
        numbers = ap (after_points n) p.numbers ∙ w.numbers;
      }

  -- ---- constraints

  pub record Stood (Stands : List Item → Type 0) (f : Format) (after : List ℕ) : Type 0 where
    pub follow : List Item
    pub good : Conforming Good f follow
    pub stands : Stands follow
    pub numbers : after ≡ sheet_numbers follow

  abbrev ConstraintsStood : ℕ → Format → List Item → Type 0
  ConstraintsStood n f l = Stood (λ m. ConstraintsStand Good m n l (constraints_of n (sheet_numbers l))) f (after_constraints n (sheet_numbers l))

  constraints_stand : (n : ℕ) (f : Format) (l : List Item) → Conforming Good (times temporary_constraint n f) l → ConstraintsStood n f l
  unfolding times
  constraints_stand zero f l c = record { follow = l; good = c; stands = ConstraintsStand.none; numbers = refl }
  constraints_stand (suc n) f l0 c0 =
      opened c0 λ type l1 p1 g1 c1. opened c1 λ range l2 p2 g2 c2. opened c2 λ start l3 p3 g3 c3. opened c3 λ stop l4 p4 g4 c4.
      opened c4 λ front l5 p5 g5 c5. opened c5 λ v l6 p6 g6 c6. opened c6 λ adhesion l7 p7 g7 c7. opened c7 λ current l p8 g8 c.
      let p = constraints_stand n f l c in
      rw (p1, p2, p3, p4, p5, p6, p7, p8)
      (record {
        follow = p.follow;
        good = p.good;
        stands = ConstraintsStand.constraint type range start stop front v adhesion current g1 g2 g3 g4 g5 g6 g7 g8 p.stands;
        numbers = p.numbers;
      })

  -- ---- segments

  abbrev LegStood : Format → List Item → Type 0
  LegStood f l = Stood (λ m. LegStands Good m l (leg_of (sheet_numbers l))) f (after_leg (sheet_numbers l))

  leg_stands : (f : Format) (l : List Item) → Conforming Good (journey_segment constraints f) l → LegStood f l
  leg_stands f l0 c0 =
      opened c0 λ country l1 p1 g1 c1. opened c1 λ number l2 p2 g2 c2. opened c2 λ major l3 p3 g3 c3.
      opened c3 λ minor l4 p4 g4 c4. opened c4 λ direction l5 p5 g5 c5. opened c5 λ n l p6 g6 c.
      let p = points_stand n.packet (counted f) l c in
      opened p.good λ m k pm gm d.
      let w = constraints_stand m.packet f k d in
      let at : after_points n.sheet (sheet_numbers l) ≡ m.sheet ∷ sheet_numbers k =
      ap (λ (z : ℕ). after_points z (sheet_numbers l)) (sym (count n g6)) ∙ p.numbers ∙ ap sheet_numbers pm in
      let whole : l ≡ p.points ++ m ∷ k = p.split ∙ ap (λ (z : List Item). p.points ++ z) pm in
      let own = subst (λ (z : ℕ). ConstraintsStand Good w.follow m.packet k (constraints_of z (sheet_numbers k))) (count m gm) w.stands in
      let mine = subst (λ (s : List ℕ). ConstraintsStand Good w.follow m.packet k (pick_constraints s)) (sym at) own in
      let stands = LegStands.leg country number major minor direction n p.points m g1 g2 g3 g4 g5 g6 p.conform gm mine in
      rw (p1, p2, p3, p4, p5, p6)
      (record {
        follow = w.follow;
        good = w.good;
        stands = subst (λ (z : List Item). LegStands Good w.follow (country ∷ number ∷ major ∷ minor ∷ direction ∷ n ∷ z)
            (record {
              nid_c = country.sheet;
              nid_sp = number.sheet;
              major = major.sheet;
              minor = minor.sheet;
              direction = direction.sheet;
              constraints = pick_constraints (after_points n.sheet (sheet_numbers l));
            })) (sym whole) stands;
        numbers = ap pick_after at ∙ ap (λ (z : ℕ). after_constraints z (sheet_numbers k)) (sym (count m gm)) ∙ w.numbers;
      })

  legs_stand : (n : ℕ) (l : List Item) → Conforming Good (times (journey_segment constraints) n end) l → LegsStand Good n l (legs_of n (sheet_numbers l))
  unfolding times
  legs_stand zero l done = LegsStand.none
  legs_stand (suc n) l c =
      let w = leg_stands (times (journey_segment constraints) n end) l c in
      LegsStand.more w.stands (subst (λ (s : List ℕ). LegsStand Good n w.follow (legs_of n s)) (sym w.numbers) (legs_stand n w.follow w.good))

  pub journey_stands : (l : List Item) → Conforming Good (journey_sheet constraints) l → JourneyStands Good l (journey_legs (sheet_numbers l))
  unfolding journey_sheet journey_fields journey_body
  journey_stands l0 c0 =
      opened c0 λ number l1 p1 g1 c1. opened c1 λ operational l2 p2 g2 c2. opened c2 λ engine l3 p3 g3 c3. opened c3 λ date l4 p4 g4 c4.
      opened c4 λ seconds l5 p5 g5 c5. opened c5 λ counter l6 p6 g6 c6. opened c6 λ status l7 p7 g7 c7. opened c7 λ n l p8 g8 c.
      rw (p1, p2, p3, p4, p5, p6, p7, p8)
      (record {
        number = number;
        operational = operational;
        engine = engine;
        date = date;
        seconds = seconds;
        counter = counter;
        status = status;
        count = n;
        values = l;
        split = refl;
        front = past g1 (past g2 (past g3 (past g4 (past g5 (past g6 (past g7 here))))));
        counted = g8;
        legs = subst (λ (z : ℕ). LegsStand Good n.packet l (legs_of z (sheet_numbers l))) (legs n g8) (legs_stand n.packet l c);
      })

-- ---- and no others do

module _ (Good : Kind → Item → Type 0) (count : (i : Item) → Good (n_iter 31) i → i.packet ≡ i.sheet) (legs : (i : Item) → Good n_iter_sp i → i.packet ≡ i.sheet) where
  constraints_only : (follow : List Item) (n : ℕ) (l : List Item) (cs : List Constraint) → ConstraintsStand Good follow n l cs
      → (cs ≡ constraints_of n (sheet_numbers l)) × (after_constraints n (sheet_numbers l) ≡ sheet_numbers follow)
  constraints_only follow n l cs ConstraintsStand.none = (refl, refl)
  constraints_only follow n l cs (ConstraintsStand.constraint {n = k} {l = m} {cs = ds} type range start stop front v adhesion current g1 g2 g3 g4 g5 g6 g7 g8 r) =
      let p = constraints_only follow k m ds r in (
        ap (λ (z : List Constraint). record { type = type.sheet; range = range.sheet; start = start.sheet; end = stop.sheet; q_front = front.sheet; speed = v.sheet } ∷ z) p.0,
        p.1,
      )

  -- the points that stand in front are left behind
  points_only : (n : ℕ) (points m : List Item) → Conforming Good (times timing_point n end) points → after_points n (sheet_numbers (points ++ m)) ≡ sheet_numbers m
  unfolding times
  points_only zero points m done = refl
  points_only (suc n) points m c0 =
      opened c0 λ a l1 p1 g1 c1. opened c1 λ b l2 p2 g2 c2. opened c2 λ d l3 p3 g3 c3. opened c3 λ e l4 p4 g4 c4.
      opened c4 λ g l5 p5 g5 c5. opened c5 λ h l6 p6 g6 c6. opened c6 λ i l7 p7 g7 c7. opened c7 λ j l8 p8 g8 c8.
      opened c8 λ k l9 p9 g9 c9. opened c9 λ o l10 p10 g10 c10. opened c10 λ p l11 p11 g11 c11. opened c11 λ q l12 p12 g12 c12.
      opened c12 λ r l13 p13 g13 c13. opened c13 λ s l14 p14 g14 c14. opened c14 λ t l15 p15 g15 c15. opened c15 λ u l p16 g16 c.
      rw (p1, p2, p3, p4, p5, p6, p7, p8, p9, p10, p11, p12, p13, p14, p15, p16) (points_only n l m c)

  leg_only : (follow l : List Item) (g : Leg) → LegStands Good follow l g → (g ≡ leg_of (sheet_numbers l)) × (after_leg (sheet_numbers l) ≡ sheet_numbers follow)
  leg_only follow l g (LegStands.leg {l = k} {cs = cs} country number major minor direction n points m g1 g2 g3 g4 g5 g6 c gm r) =
      let p = constraints_only follow m.packet k cs r in
      let s = sheet_numbers (points ++ m ∷ k) in
      let at : after_points n.sheet s ≡ m.sheet ∷ sheet_numbers k = ap (λ (z : ℕ). after_points z s) (sym (count n g6)) ∙ points_only n.packet points (m ∷ k) c in
      let own : cs ≡ constraints_of m.sheet (sheet_numbers k) = p.0 ∙ ap (λ (z : ℕ). constraints_of z (sheet_numbers k)) (count m gm) in (
        ap (λ (z : List Constraint). record { nid_c = country.sheet; nid_sp = number.sheet; major = major.sheet; minor = minor.sheet; direction = direction.sheet; constraints = z })
            (own ∙ ap pick_constraints (sym at)),
        ap pick_after at ∙ ap (λ (z : ℕ). after_constraints z (sheet_numbers k)) (sym (count m gm)) ∙ p.1,
      )

  legs_only : (n : ℕ) (l : List Item) (gs : List Leg) → LegsStand Good n l gs → gs ≡ legs_of n (sheet_numbers l)
  legs_only n l gs LegsStand.none = refl
  legs_only n l gs (LegsStand.more {n = k} {l = a} {m = b} {g = g} {gs = hs} r rest) =
      let p = leg_only b a g r in
      ap₂ (λ (h : Leg) (z : List Leg). h ∷ z) p.0 (legs_only k b hs rest ∙ ap (legs_of k) (sym p.1))

  pub journey_only : (l : List Item) (gs : List Leg) → JourneyStands Good l gs → gs ≡ journey_legs (sheet_numbers l)
  journey_only l gs w =
      rw w.split (legs_only w.count.packet w.values gs w.legs ∙ ap (λ (n : ℕ). legs_of n (sheet_numbers w.values)) (legs w.count w.counted))

-- of a packet's values, and of a sheet's
pub packet_legs_stand : (l : List Item) → Conforming InPacket (journey_sheet constraints) l → JourneyStands InPacket l (journey_legs (sheet_numbers l))
packet_legs_stand l c = journey_stands InPacket (λ i g. sym g.raised) (λ i g. sym g.raised) l c

pub sheet_legs_stand : (l : List Item) → Conforming InSheet (journey_sheet constraints) l → JourneyStands InSheet l (journey_legs (sheet_numbers l))
sheet_legs_stand l c = journey_stands InSheet (λ i g. same_is i g) (λ i g. same_is i g) l c

pub packet_legs_only : (l : List Item) (gs : List Leg) → JourneyStands InPacket l gs → gs ≡ journey_legs (sheet_numbers l)
packet_legs_only l gs w = journey_only InPacket (λ i g. sym g.raised) (λ i g. sym g.raised) l gs w

pub sheet_legs_only : (l : List Item) (gs : List Leg) → JourneyStands InSheet l gs → gs ≡ journey_legs (sheet_numbers l)
sheet_legs_only l gs w = journey_only InSheet (λ i g. same_is i g) (λ i g. same_is i g) l gs w
