-- The ranges that a caller may rely on: how long a result is, how high a speed or an altitude, and which refusals each operation has.
use mathlib.Core.Path.{◌≡◌, refl, sym, ap, ap₂, ◌∙◌}
use mathlib.Core.Bool.{true, false}
use mathlib.Core.List.{List, [], ◌∷◌}
use Prim.Native.Nat.{ℕ, ◌≤◌, ◌<◌}
use native.Mathlib.Omega.{arith}
use lib.Dec.{lit≤}
use lib.ListN.{length}
use Rattle.kinds.specs.declared.Item.{Item}
use Rattle.format.specs.Grounds.{Among}
use Rattle.format.proofs.Lawful.{to_sheet_lem}
use Rattle.grammar.specs.segment.Segment.{wire_changes}
use Rattle.grammar.specs.segment.Judgement.{segment_number}
use Rattle.grammar.specs.segment.Grounds.{packet_refusals, sheet_refusals}
use Rattle.grammar.proofs.segment.Ends.{sheet_fields_lawful}
use Rattle.grammar.proofs.segment.Grounds.{fields_refusals, packet_listed, sheet_listed}
use Rattle.grammar.specs.link.Link.{to_either_packet, to_either_sheet}
use Rattle.grammar.specs.link.Grounds.{EitherPacketGround, EitherSheetGround, EitherPacketValues, EitherSheetValues}
use Rattle.grammar.proofs.link.Grounds.{either_packet_listed, either_sheet_listed}
use Rattle.grammar.proofs.link.Ends.{either_sheet_size, either_packet_size}
use Rattle.speed.specs.declared.Train.{Train}
use Rattle.speed.specs.Speed.{in_fives}
use Rattle.speed.specs.Run.{Each, numbers_of, each_given_back, speed_in_run}
use Rattle.speed.proofs.Runs.{run_in_fives}
use Rattle.speed.proofs.Bounds.{speed_most}
use Rattle.speed_question.specs.Question.{Brought}
use Rattle.altitude.specs.Altitude.{altitude_field}
use Rattle.promises.specs.Promised.{SegmentValues}
use Rattle.promises.specs.Refused.{ConversionGround, SegmentGround, PacketToSheetGround, SheetToPacketGround, packet_to_sheet_refusals, sheet_to_packet_refusals, speed_refusals, altitude_refusals}
use Rattle.promises.specs.Ranges.{highest_of_profile}
use Rattle.promises.proofs.Values.{either_good_sheet}
use Rattle.promises.proofs.Agreeing.{lowered_same}
use Rattle.promises.proofs.Standing.{altitude_stands}
use Rattle.promises.proofs.Runs.{each_on}
use Rattle.promises.proofs.Refused.{member, all_members, among_by, among_member, among_into}

-- ---- how long a result is

pub good_sheet : {l : List Item} → SegmentValues Brought.packet l → SegmentValues Brought.sheet l
good_sheet c = to_sheet_lem (sheet_fields_lawful wire_changes (lit≤ tt)) c

-- a sheet of a segment or a journey has 8 to 15,226 bytes
pub packet_sheet_size : (l : List Item) → EitherPacketValues l → (8 ≤ length (to_either_sheet l)) × (length (to_either_sheet l) ≤ 15226)
packet_sheet_size l v = either_sheet_size (either_good_sheet v)

-- a packet of a segment or a journey has 17 to 8,207 bytes
pub sheet_packet_size : (l : List Item) → EitherSheetValues l → (17 ≤ length (to_either_packet l)) × (length (to_either_packet l) ≤ 8207)
sheet_packet_size l v = either_packet_size v

-- ---- how high a speed is

-- a packet's speeds are multiples of 5
pub packet_speed_fives : (t : Train) (x : ℕ) (v : List (List Item)) → Each (SegmentValues Brought.packet) v → speed_in_run t x (numbers_of v) ≡ in_fives (speed_in_run t x (numbers_of v))
packet_speed_fives t x v c = ap (λ (w : List (List Item)). speed_in_run t x (numbers_of w)) (sym (same v c)) ∙ run_in_fives t x v (each_on (λ l. good_sheet) v c)
  where
    same : (v : List (List Item)) → Each (SegmentValues Brought.packet) v → each_given_back v ≡ v
    same [] c = refl
    same (l ∷ v) c = ap₂ (λ (a : List Item) (r : List (List Item)). a ∷ r) (lowered_same c.0) (same v c.1)

-- the highest speed of a profile is 600 km/h from packets and 604 from sheets
pub highest : (b : Brought) (t : Train) (x : ℕ) (v : List (List Item)) → Each (SegmentValues b) v → speed_in_run t x (numbers_of v) ≤ highest_of_profile b
highest Brought.packet t x v c = omega (arith, packet_speed_fives t x v c, speed_most t x v (each_on (λ l. good_sheet) v c))
highest Brought.sheet t x v c = speed_most t x v c

pub altitude_most : (l : List Item) → SegmentValues Brought.packet l → altitude_field l ≤ 1048575
altitude_most l c = let a = altitude_stands l c in let h : a.0.packet < 1048576 = a.2.fits in omega (arith, a.3)

-- a conversion into a room that holds the largest result is not refused with 8
pub never_short : {Own : ℕ → ℕ → Type 0} {Good : List Item → Type 0} {input : List Item → List ℕ} {s : List ℕ} (write : List Item → List ℕ) (most : ℕ) (room : List ℕ)
    → most ≤ length room → ((l : List Item) → Good l → length (write l) ≤ most) → ((place : ℕ) → Own 8 place → ⊥) → {place : ℕ} → ConversionGround Own Good input write s room 8 place → ⊥
never_short write most room h size none {place} (ConversionGround.own g) = none place g
never_short write most room h size none (ConversionGround.short_room w short e p) = omega (arith, size w.values w.good)

-- ---- which refusals

module _ (s : List ℕ) where
  pub altitude_listed : (r place : ℕ) → SegmentGround Brought.packet s r place → Among r altitude_refusals
  altitude_listed r place g = packet_listed segment_number (fields_refusals wire_changes) s r place g

  pub packet_not_8 : (place : ℕ) → EitherPacketGround s 8 place → ⊥
  packet_not_8 place g = let e : false ≡ true = among_member (either_packet_listed s 8 place g) in let z : ◌≡◌ {A = ℕ} 0 1 = cc in omega arith

  pub sheet_not_8 : (place : ℕ) → EitherSheetGround s 8 place → ⊥
  sheet_not_8 place g = let e : false ≡ true = among_member (either_sheet_listed s 8 place g) in let z : ◌≡◌ {A = ℕ} 0 1 = cc in omega arith

  module _ (room : List ℕ) (r place : ℕ) where
    pub packet_to_sheet_listed : PacketToSheetGround s room r place → Among r packet_to_sheet_refusals
    packet_to_sheet_listed (ConversionGround.own g) = among_into packet_to_sheet_refusals refl (either_packet_listed s r place g)
    packet_to_sheet_listed (ConversionGround.short_room w h e p) = rw e (among_by 8 packet_to_sheet_refusals refl)

    pub sheet_to_packet_listed : SheetToPacketGround s room r place → Among r sheet_to_packet_refusals
    sheet_to_packet_listed (ConversionGround.own g) = among_into sheet_to_packet_refusals refl (either_sheet_listed s r place g)
    sheet_to_packet_listed (ConversionGround.short_room w h e p) = rw e (among_by 8 sheet_to_packet_refusals refl)

module _ (refusals : Brought → List ℕ) where
  -- the segment's own refusals are listed where those of a packet and those of a sheet are
  pub own_among : all_members packet_refusals (refusals Brought.packet) ≡ true → all_members sheet_refusals (refusals Brought.sheet) ≡ true
      → (b : Brought) (s : List ℕ) (r place : ℕ) → SegmentGround b s r place → Among r (refusals b)
  own_among p q Brought.packet s r place g = among_into (refusals Brought.packet) p (packet_listed segment_number (fields_refusals wire_changes) s r place g)
  own_among p q Brought.sheet s r place g = among_into (refusals Brought.sheet) q (sheet_listed wire_changes s r place g)

  pub late_among : (r : ℕ) → member r (refusals Brought.packet) ≡ true → member r (refusals Brought.sheet) ≡ true → (b : Brought) → Among r (refusals b)
  late_among r p q Brought.packet = among_by r (refusals Brought.packet) p
  late_among r p q Brought.sheet = among_by r (refusals Brought.sheet) q

pub own_listed : (b : Brought) (s : List ℕ) (r place : ℕ) → SegmentGround b s r place → Among r (speed_refusals b)
own_listed b s r place g = own_among speed_refusals refl refl b s r place g

pub late_listed : (b : Brought) → Among 10 (speed_refusals b) × Among 11 (speed_refusals b)
late_listed b = (late_among speed_refusals 10 refl refl b, late_among speed_refusals 11 refl refl b)
