-- The segments of a journey and their temporary constraints, from the numbers of its sheet.
use Rattle.std.specs.Prelude.{List, [], ◌∷◌, ℕ, zero, suc, drop, get_or}

-- "each Q_TC_Type 2, Q_TC_Range 2, start 24, end 24, Q_FRONT 1, V_Speed_Level 7": a temporary constraint, by its sheet's numbers
pub record Constraint : Type 0 where
  pub type : ℕ
  pub range : ℕ
  pub start : ℕ
  pub end : ℕ
  pub q_front : ℕ
  pub speed : ℕ

-- "per segment NID_C 10, NID_SP 32, version 8 + 8, Q_SP_DIR 1, .. timing points, and .. temporary constraints": a journey's segment, without its timing points
pub record Leg : Type 0 where
  pub nid_c : ℕ
  pub nid_sp : ℕ
  pub major : ℕ
  pub minor : ℕ
  pub direction : ℕ
  pub constraints : List Constraint

-- a constraint's numbers: the eight from Q_TC_Type to the current
abbrev pub constraint_of : List ℕ → Constraint
constraint_of s = record { type = get_or s 0 0; range = get_or s 1 0; start = get_or s 2 0; end = get_or s 3 0; q_front = get_or s 4 0; speed = get_or s 5 0 }

-- "up to 31 constraints per segment": n of them; and what comes after them
abbrev pub constraints_of : ℕ → List ℕ → List Constraint
constraints_of zero s = []
constraints_of (suc n) s = constraint_of s ∷ constraints_of n (drop 8 s)

abbrev pub after_constraints : ℕ → List ℕ → List ℕ
after_constraints zero s = s
after_constraints (suc n) s = after_constraints n (drop 8 s)

-- what comes after n timing points, of sixteen numbers each, "from NID_TP to Q_Automatic_Closing"
abbrev pub after_points : ℕ → List ℕ → List ℕ
after_points zero s = s
after_points (suc n) s = after_points n (drop 16 s)

-- the count of a segment's constraints, and the constraints, after its five numbers and its timing points
abbrev pub restrictions_of : List ℕ → List ℕ
restrictions_of s = after_points (get_or s 5 0) (drop 6 s)

abbrev pub leg_of : List ℕ → Leg
leg_of s = record {
  nid_c = get_or s 0 0;
  nid_sp = get_or s 1 0;
  major = get_or s 2 0;
  minor = get_or s 3 0;
  direction = get_or s 4 0;
  constraints = constraints_of (get_or (restrictions_of s) 0 0) (drop 1 (restrictions_of s));
}

-- what comes after a segment
abbrev pub after_leg : List ℕ → List ℕ
after_leg s = after_constraints (get_or (restrictions_of s) 0 0) (drop 1 (restrictions_of s))

-- "N_ITER_SP 8, then per segment": n segments
abbrev pub legs_of : ℕ → List ℕ → List Leg
legs_of zero s = []
legs_of (suc n) s = leg_of s ∷ legs_of n (after_leg s)

-- "The numbers stand in packet order": the packet number, five of the header and Q_JP_Status, then N_ITER_SP
abbrev pub journey_legs : List ℕ → List Leg
journey_legs s = legs_of (get_or s 7 0) (drop 8 s)
