-- The segments of a journey and their constraints, by the tree's fields: where the tree has NID_C to Q_SP_DIR, Q_TC_Type to V_Speed_Level stand exactly their components.
use Rattle.std.specs.Prelude.{◌≡◌, List, [], ◌∷◌, ◌++◌, ℕ, zero, suc}
use Rattle.kinds.specs.declared.Item.{Item}
use Rattle.kinds.specs.Kind.{Kind}
use Rattle.kinds.specs.Kinds.{nid_c, nid_sp, m_sp_version, n_iter, no_current}
use Rattle.kinds.specs.journey.Kinds.{n_iter_sp, q_sp_dir, q_tc_type, q_tc_range, d_tc_start_location, d_tc_end_location, q_tc_front, v_speed_level, q_low_adhesion_rate}
use Rattle.format.specs.Format.{end, field, times}
use Rattle.format.specs.Conforming.{Conforming}
use Rattle.format.specs.Grounds.{Front}
use Rattle.grammar.specs.journey.Journey.{timing_point, journey_segment, journey_sheet, constraints}
use Rattle.legs.specs.Legs.{Constraint, Leg}

-- Good k i: the value i is good where the tree has a field of the kind k
module _ (Good : Kind → Item → Type 0) where
  -- "each Q_TC_Type 2, Q_TC_Range 2, start 24, end 24, ..": n constraints, in front of the values that follow
  pub data ConstraintsStand (follow : List Item) : ℕ → List Item → List Constraint → Type 0 where
    none : ConstraintsStand follow zero follow []
    constraint : {n : ℕ} {l : List Item} {cs : List Constraint} (type range start stop front v adhesion current : Item)
        → Good q_tc_type type → Good q_tc_range range → Good (d_tc_start_location range.packet) start → Good (d_tc_end_location range.packet start.packet) stop
        → Good (q_tc_front type.packet) front → Good (v_speed_level type.packet) v → Good (q_low_adhesion_rate type.packet) adhesion → Good no_current current
        → ConstraintsStand follow n l cs
        → ConstraintsStand follow (suc n) (type ∷ range ∷ start ∷ stop ∷ front ∷ v ∷ adhesion ∷ current ∷ l)
        (record { type = type.sheet; range = range.sheet; start = start.sheet; end = stop.sheet; q_front = front.sheet; speed = v.sheet } ∷ cs)

  -- "NID_C 10, NID_SP 32, version 8 + 8, Q_SP_DIR 1, N_ITER 5 timing points, and a 5-bit count of temporary constraints", with the constraints
  pub data LegStands (follow : List Item) : List Item → Leg → Type 0 where
    leg : {l : List Item} {cs : List Constraint} (country number major minor direction n : Item) (points : List Item) (m : Item)
        → Good nid_c country → Good nid_sp number → Good m_sp_version major → Good m_sp_version minor → Good q_sp_dir direction → Good (n_iter 31) n
        → Conforming Good (times timing_point n.packet end) points → Good (n_iter constraints) m → ConstraintsStand follow m.packet l cs
        → LegStands follow (country ∷ number ∷ major ∷ minor ∷ direction ∷ n ∷ (points ++ m ∷ l))
        (record { nid_c = country.sheet; nid_sp = number.sheet; major = major.sheet; minor = minor.sheet; direction = direction.sheet; constraints = cs })

  -- "N_ITER_SP 8, then per segment": to the end of the values
  pub data LegsStand : ℕ → List Item → List Leg → Type 0 where
    none : LegsStand zero [] []
    more : {n : ℕ} {l m : List Item} {g : Leg} {gs : List Leg} → LegStands m l g → LegsStand n m gs → LegsStand (suc n) l (g ∷ gs)

  -- "The numbers stand in packet order": the values of a journey by the names of their fields, and its segments where the tree has them
  pub record JourneyStands (l : List Item) (gs : List Leg) : Type 0 where
    pub number : Item
    pub operational : Item
    pub engine : Item
    pub date : Item
    pub seconds : Item
    pub counter : Item
    pub status : Item
    pub count : Item
    pub values : List Item
    pub split : l ≡ number ∷ operational ∷ engine ∷ date ∷ seconds ∷ counter ∷ status ∷ count ∷ values
    pub front : Front Good (journey_sheet constraints) (number ∷ operational ∷ engine ∷ date ∷ seconds ∷ counter ∷ status ∷ []) (field n_iter_sp λ n. times (journey_segment constraints) n end)
    pub counted : Good n_iter_sp count
    pub legs : LegsStand count.packet values gs
