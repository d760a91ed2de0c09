-- The segments of an accepted journey and their constraints, read at places of any medium, as the contracts say it. No promise names it.
use Rattle.std.specs.Prelude.{◌≡◌, Bool, ◌&&◌, List, ℕ, ◌≤◌, eqb, length, drop, get_or}
use Rattle.kinds.specs.declared.Item.{Item}
use Rattle.format.specs.Format.{Format, end, times, sheet_numbers}
use Rattle.grammar.specs.journey.Journey.{temporary_constraint, journey_segment, constraints}
use Rattle.speed_element.specs.internal.Reading.{Past, Passes}
use Rattle.legs.specs.Legs.{Constraint, Leg, constraint_of, constraints_of, after_constraints, leg_of, after_leg, legs_of}
use Rattle.leg_parts.specs.declared.Legs.{Legs}
use Rattle.leg_parts.specs.declared.Identity.{Identity}
use Rattle.leg_parts.specs.declared.LegHead.{LegHead}
use Rattle.leg_parts.specs.declared.ConstraintAt.{ConstraintAt}

-- the leg of a head and its constraints
abbrev pub leg_with : LegHead → List Constraint → Leg
leg_with h l = record {
  nid_c = h.identity.nid_c;
  nid_sp = h.identity.nid_sp;
  major = h.identity.major;
  minor = h.identity.minor;
  direction = h.direction;
  constraints = l;
}

-- a constraint that was read
abbrev pub constraint_with : ConstraintAt → Constraint
constraint_with c = record { type = c.of; range = c.range; start = c.start; end = c.end; q_front = c.q_front; speed = c.speed }

-- a segment's identity, from the numbers of its sheet: after the packet number and five of the header
pub record IdentityRead (ns : List ℕ) (i : Identity) : Type 0 where
  pub country : i.nid_c ≡ get_or ns 6 0
  pub number : i.nid_sp ≡ get_or ns 7 0
  pub first : i.major ≡ get_or ns 8 0
  pub second : i.minor ≡ get_or ns 9 0

-- two identities are the same
abbrev pub same_identity : Identity → Identity → Bool
same_identity a b = eqb a.nid_c b.nid_c && (eqb a.nid_sp b.nid_sp && (eqb a.major b.major && eqb a.minor b.minor))

-- Reads f at l: the tree f stands at the place at, and is accepted with the values l
module _ (Reads : Format → ℕ → List Item → Type 0) where
  -- the segments of a journey with the numbers ns stand from the first on
  pub record LegsRead (ns : List ℕ) (r : Legs) : Type 0 where
    pub count_is : r.count ≡ get_or ns 7 0
    pub few : r.count ≤ 255
    pub past : Past Reads (times (journey_segment constraints) r.count end) r.first (drop 8 ns)

  -- the constraints of the leg g stand where its head says, and f follows them with the numbers that are left
  pub record LegOpened (h : LegHead) (g : Leg) (f : Format) (left : List ℕ) : Type 0 where
    pub values : List Item
    pub reads : Reads (times temporary_constraint h.count f) h.constraints values
    pub is : g ≡ leg_with h (constraints_of h.count (sheet_numbers values))
    pub left_is : left ≡ after_constraints h.count (sheet_numbers values)

  -- the head of a segment at the place at
  pub record LegRead (at : ℕ) (h : LegHead) : Type 0 where
    pub opened : (f : Format) (l : List Item) → Reads (journey_segment constraints f) at l → LegOpened h (leg_of (sheet_numbers l)) f (after_leg (sheet_numbers l))
    pub few : h.count ≤ 31

  -- a constraint at the place at
  pub record ConstraintRead (at : ℕ) (c : ConstraintAt) : Type 0 where
    pub passes : Passes Reads temporary_constraint (drop 8) at c.next
    pub is : (f : Format) (l : List Item) → Reads (temporary_constraint f) at l → constraint_of (sheet_numbers l) ≡ constraint_with c

  -- the legs l, to the journey's last, stand at the place at
  pub record LegsAt (at : ℕ) (l : List Leg) : Type 0 where
    pub values : List Item
    pub reads : Reads (times (journey_segment constraints) (length l) end) at values
    pub are : l ≡ legs_of (length l) (sheet_numbers values)

  -- n constraints, l, stand at the place at
  pub record ConstraintsAt (at n : ℕ) (l : List Constraint) : Type 0 where
    pub follows : Format
    pub values : List Item
    pub reads : Reads (times temporary_constraint n follows) at values
    pub are : l ≡ constraints_of n (sheet_numbers values)
