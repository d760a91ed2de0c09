-- The constraints of a journey are those that stand in its tree, of packets and of sheets, and no others do; a segment's identity stands where its tree has it.
use mathlib.Core.Path.{◌≡◌, refl}
use mathlib.Core.List.{List}
use Prim.Native.Nat.{ℕ}
use lib.ListN.{get_or}
use Rattle.kinds.specs.declared.Item.{Item}
use Rattle.kinds.specs.Kind.{Kind}
use Rattle.format.specs.Format.{sheet_numbers}
use Rattle.format.specs.Conforming.{Conforming}
use Rattle.grammar.specs.journey.Journey.{journey_sheet, constraints}
use Rattle.speed.specs.Speed.{Element}
use Rattle.speed.specs.Standing.{SegmentStands}
use Rattle.speed_question.specs.Question.{Brought}
use Rattle.promises.specs.Promised.{GoodIn}
use Rattle.legs.specs.Legs.{Leg, journey_legs}
use Rattle.legs.specs.Standing.{JourneyStands}
use Rattle.legs.proofs.Standing.{packet_legs_stand, sheet_legs_stand, packet_legs_only, sheet_legs_only}

-- "per segment NID_C 10, NID_SP 32, version 8 + 8, Q_SP_DIR 1": the journey's segments and their constraints are the fields of its tree
pub legs_stand_in : (b : Brought) (l : List Item) → Conforming (GoodIn b) (journey_sheet constraints) l → JourneyStands (GoodIn b) l (journey_legs (sheet_numbers l))
legs_stand_in Brought.packet l c = packet_legs_stand l c
legs_stand_in Brought.sheet l c = sheet_legs_stand l c

-- and no others stand there
pub legs_only : (b : Brought) (l : List Item) (gs : List Leg) → JourneyStands (GoodIn b) l gs → gs ≡ journey_legs (sheet_numbers l)
legs_only Brought.packet l gs w = packet_legs_only l gs w
legs_only Brought.sheet l gs w = sheet_legs_only l gs w

-- what 23 compares are a segment's NID_C, NID_SP and version
pub identity_stands : (Good : Kind → Item → Type 0) (from : ℕ) (l : List Item) (es : List Element) (w : SegmentStands Good from l es)
    → (get_or (sheet_numbers l) 6 0 ≡ w.country.sheet) × (get_or (sheet_numbers l) 7 0 ≡ w.identity.sheet) × (get_or (sheet_numbers l) 8 0 ≡ w.major.sheet) × (get_or (sheet_numbers l) 9 0 ≡ w.minor.sheet)
identity_stands Good from l es w = rw w.split (refl, refl, refl, refl)
