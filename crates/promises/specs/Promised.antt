-- The words of the promises: what is converted, what is answered, and what lowering makes of a sheet's numbers.
use Rattle.std.specs.Prelude.{◌≡◌, Bool, true, cond, List, [], ◌∷◌, ◌++◌, map, ℕ, ◌+◌, ◌*◌, ◌-◌, ◌/◌, ◌≤◌, ◌<◌, min, eqb, ℤ, pos, ◌-ℤ◌, length, take}
use Rattle.bits.specs.Bits.{bits_of, bytes_of_bits}
use Rattle.numbers.specs.Numbers.{groups_in}
use Rattle.kinds.specs.declared.Item.{Item}
use Rattle.kinds.specs.Kind.{Kind}
use Rattle.kinds.specs.Kinds.{l_sp, m_sp_altitude, speed, m_current}
use Rattle.format.specs.Format.{Format, end, field, Read}
use Rattle.format.specs.Conforming.{Conforming, InPacket, InSheet}
use Rattle.format.specs.Grounds.{Front, Among}
use Rattle.grammar.specs.segment.Segment.{sheet_fields, wire_changes}
use Rattle.grammar.specs.segment.Judgement.{from_packet, from_sheet, to_packet, to_sheet}
use Rattle.grammar.specs.link.Link.{link_fields, link_bits, to_either_packet, to_either_sheet}
use Rattle.grammar.specs.link.Grounds.{EitherPacketValues, EitherSheetValues}
use Rattle.speed.specs.declared.Train.{Train}
use Rattle.speed.specs.Speed.{Element, valid_train, segment_length, in_fives}
use Rattle.speed.specs.Run.{Each, EachTwo, numbers_of, last_of}
use Rattle.speed.specs.Standing.{SegmentStands}
use Rattle.speed.specs.Faster.{FieldByField}
use Rattle.speed_question.specs.declared.Speed.{Speed}
use Rattle.speed_question.specs.Question.{Brought, packet, sheet, medium_of, run_count}
use Rattle.convert.specs.Convert.{Outcome, fitted, packet_to_sheet, sheet_to_packet}

-- whether an item is a good value of a field, in a packet or in a sheet
abbrev pub GoodIn : Brought → Kind → Item → Type 0
GoodIn packet = InPacket
GoodIn sheet = InSheet

-- "keeps the published widths and ranges and the stated rules", where a segment is needed: one good value for each field of its tree, and no more
abbrev pub SegmentValues : Brought → List Item → Type 0
SegmentValues b l = Conforming (GoodIn b) (sheet_fields wire_changes) l

-- "When a packet is written", "numbers one after the other": the packet or the sheet of a segment's values
abbrev pub segment_of : Brought → List Item → List ℕ
segment_of packet = to_packet wire_changes
segment_of sheet = to_sheet wire_changes

-- "stored packets and sheets": what is brought, judged at a limit of wire changes
abbrev pub read_at : Brought → ℕ → List ℕ → Read
read_at packet = from_packet
read_at sheet = from_sheet

-- the input s is what `input` writes for good values, as in "When a packet is written"
pub record OfValues (Good : List Item → Type 0) (input : List Item → List ℕ) (s : List ℕ) : Type 0 where
  pub values : List Item
  pub good : Good values
  pub whole : s ≡ input values

-- a packet or a sheet that "keeps the published widths and ranges and the stated rules"
abbrev pub SegmentOfValues : Brought → List ℕ → Type 0
SegmentOfValues b s = OfValues (SegmentValues b) (segment_of b) s

-- "is converted if the room holds the result": the input s is what `input` writes for good values, and the room holds what `result` writes for them
pub record Convertible (Good : List Item → Type 0) (input result : List Item → List ℕ) (s room : List ℕ) : Type 0 where
  pub values : List Item
  pub good : Good values
  pub whole : s ≡ input values
  pub holds : length (result values) ≤ length room

-- "Every packet .. is converted if the room holds the result"
abbrev pub ConvertiblePacket : List ℕ → List ℕ → Type 0
ConvertiblePacket s room = Convertible EitherPacketValues to_either_packet to_either_sheet s room

-- "Every .. sheet .. is converted if the room holds the result"
abbrev pub ConvertibleSheet : List ℕ → List ℕ → Type 0
ConvertibleSheet s room = Convertible EitherSheetValues to_either_sheet to_either_packet s room

-- "a run of 1 to 4 segments of the one kind, in order of travel": each is a packet, or each is a sheet, of good values
pub record RunOfValues (b : Brought) (run : List (List ℕ)) : Type 0 where
  pub values : List (List Item)
  pub good : Each (SegmentValues b) values
  pub whole : run ≡ map (segment_of b) values

-- a speed question that has an answer: `medium` says what is brought, the run has "1 to 4 segments", each of good values, the train is valid, and x is "from 0 to L_SP - 1",
-- "with x in the last". One segment alone is a run whose count is 1.
pub record Answerable (medium count : ℕ) (run : List (List ℕ)) (t : Train) (x : ℕ) : Type 0 where
  pub brought : Brought
  pub named : medium ≡ medium_of brought
  pub few : run_count count ≡ true
  pub of : RunOfValues brought run
  pub valid : valid_train t ≡ true
  pub inside : x < segment_length (last_of (numbers_of of.values))

-- "The train card gains a maximum speed": the card with the maximum m in km/h, all else as it was
abbrev pub with_maximum : ℕ → Train → Train
with_maximum m t = record { length = t.length; cant = t.cant; maximum = m; freight_p = t.freight_p; freight_g = t.freight_g; passenger = t.passenger }

-- "the greatest multiple of 5 not above": an answer with its speed lowered to it
abbrev pub answer_in_fives : Speed → Speed
answer_in_fives o = record { refusal = o.refusal; place = o.place; speed = in_fives o.speed }

-- "the lower of that and the profile's": an answer with its speed limited to the card's maximum; it is said without `limited`, so that a wrong one would be found
abbrev pub answer_limited : Train → Speed → Speed
answer_limited t o = record { refusal = o.refusal; place = o.place; speed = min t.maximum o.speed }

-- "It returns its number with .. speed .. 0": an answer with the speed v where it is no refusal
abbrev pub answer_with : ℕ → Speed → Speed
answer_with v o = record { refusal = o.refusal; place = o.place; speed = cond (eqb o.refusal 0) v 0 }

-- w is "the greatest multiple of 5 not above" v
pub record GreatestFive (v w : ℕ) : Type 0 where
  pub fives : ℕ
  pub multiple : w ≡ fives * 5
  pub not_above : w ≤ v
  pub greatest : (n : ℕ) → n * 5 ≤ v → n * 5 ≤ w

-- "converted": the answer is no refusal
abbrev pub Done : Outcome → Type 0
Done o = o.answer.refusal ≡ 0

-- "Success returns the length": that many bytes from the room's start
abbrev pub result : Outcome → List ℕ
result o = take o.answer.length o.room

-- "numbers one after the other, each in groups of seven bits"
abbrev pub spelled : List ℕ → List ℕ
spelled [] = []
spelled (a ∷ l) = groups_in a ++ spelled l

-- "each field most significant bit first": every value in its own width, one after the other
abbrev pub spelled_bits : Format → List Item → List Bool
spelled_bits end l = []
spelled_bits (field k next) [] = []
spelled_bits (field k next) (i ∷ l) = bits_of k.width i.packet ++ spelled_bits (next i.packet) l

-- "Header, 120 bits: NID_PACKET_ATO 8 .., L_PACKET_ATO 16", then every field after the packet number; "Zero bits pad it to a whole byte"
abbrev pub spelled_packet : ℕ → List Bool → List ℕ
spelled_packet n bits = bytes_of_bits (bits_of 8 n ++ (bits_of 16 (length bits - 96) ++ bits))

-- "amperes + 1", lowered "to multiples of 10 A"; 0, for no limit, stays
abbrev pub lowered_current : ℕ → ℕ
lowered_current a = cond (eqb a 0) 0 ((a - 1) / 10 * 10 + 1)

-- "speeds lowered to multiples of 5 km/h and currents to multiples of 10 A", and every other number unchanged
pub record LoweredTo (k : Kind) (a b : ℕ) : Type 0 where
  pub speeds : k ≡ speed → b ≡ a / 5 * 5
  pub currents : k ≡ m_current → b ≡ lowered_current a
  pub others : (k ≡ speed → ⊥) → (k ≡ m_current → ⊥) → b ≡ a

-- "in every field after that lowering": field by field
abbrev pub Lowering : Format → List Item → List Item → Type 0
Lowering f l m = FieldByField LoweredTo f l m

-- "they agree in every field after that lowering": both are lowered, field by field, to the same numbers
pub record Agreeing (l m : List Item) : Type 0 where
  pub lower : List Item
  pub first : Lowering link_fields l lower
  pub second : Lowering link_fields m lower

-- ---- what is read and written again

-- "Sheet written and read again: the same sheet, speeds lowered to multiples of 5 km/h and currents to multiples of 10 A."
pub record Again (s room back : List ℕ) : Type 0 where
  -- the sheet's values, and these values lowered
  pub values : List Item
  pub lower : List Item
  pub whole : s ≡ to_either_sheet values
  pub good : EitherSheetValues values
  pub good_lower : EitherPacketValues lower
  pub lowers : Lowering link_fields values lower
  pub again : packet_to_sheet (result (sheet_to_packet s room)) back ≡ fitted (to_either_sheet lower) back

-- the packet that a sheet s was converted to, in some room
pub record ConvertedTo (s packet : List ℕ) : Type 0 where
  pub room : List ℕ
  pub done : Done (sheet_to_packet s room)
  pub whole : packet ≡ result (sheet_to_packet s room)

-- "The lowering in demand 3 holds for the run": each sheet of a run against its packet
abbrev pub EachConverted : List (List ℕ) → List (List ℕ) → Type 0
EachConverted sheets packets = EachTwo ConvertedTo sheets packets

-- "the lowest speed of the elements that hold there", "the lower of that and the profile's": v is one of the speeds l, and none of them is lower
pub record LowestOf (v : ℕ) (l : List ℕ) : Type 0 where
  pub one : Among v l
  pub lowest : (w : ℕ) → Among w l → v ≤ w

-- "from the packet, the lower of the card's maximum and the greatest multiple of 5 not above the profile's speed from the sheet": `packets` is the answer from the packets,
-- `profile` the profile's speed from the sheets, and `sheets` the answer from the sheets to a card with the maximum 600
pub record Lowered (maximum profile : ℕ) (sheets packets : Speed) : Type 0 where
  pub answered : packets.refusal ≡ 0
  pub fives : ℕ
  pub greatest : GreatestFive profile fives
  pub asked : GreatestFive sheets.speed fives
  pub lower : LowestOf packets.speed (maximum ∷ fives ∷ [])

-- l are values of a sheet whose body has `bits` bits, whose packet has `packet` bytes and whose sheet has `sheet` bytes; 96 bits of the header stand after L_PACKET_ATO
pub record Reaches (l : List Item) (bits packet sheet : ℕ) : Type 0 where
  pub values : EitherSheetValues l
  pub body : length (link_bits l) ≡ 96 + bits
  pub packet_bytes : length (to_either_packet l) ≡ packet
  pub sheet_bytes : length (to_either_sheet l) ≡ sheet

-- ---- the values that a question is about

-- "field order on our link": the item stands where the tree has a field of this kind, after values that conform to the front of the tree
pub record StandsAt (Good : Kind → Item → Type 0) (f : Format) (k : Kind) (l : List Item) (i : Item) : Type 0 where
  pub before : List Item
  pub after : List Item
  pub next : ℕ → Format
  pub front : Front Good f before (field k next)
  pub split : l ≡ before ++ i ∷ after

-- "the altitude of a packet in signed centimetres": the value of M_SP_Altitude, less the 100,000 that is added when it is sent
pub record AltitudeOf (l : List Item) (a : ℤ) : Type 0 where
  pub item : Item
  pub stands : StandsAt InPacket (sheet_fields wire_changes) m_sp_altitude l item
  pub signed : a ≡ pos item.packet -ℤ pos 100000

-- "L_SP 24 (1 to 16,777,215 cm)": its number
pub record LengthOf (Good : Kind → Item → Type 0) (l : List Item) (n : ℕ) : Type 0 where
  pub item : Item
  pub stands : StandsAt Good (sheet_fields wire_changes) l_sp l item
  pub number : n ≡ item.sheet

-- "Their elements are laid end to end; each ends where the next starts, across boundaries too": the elements that stand in the values of a run's segments, the first of
-- which starts at `from`; "with x in the last": where the last segment starts; and where it ends. All are in cm
pub data RunStands (b : Brought) : ℕ → List (List Item) → List Element → ℕ → ℕ → Type 0 where
  last : {from : ℕ} {l : List Item} {es : List Element} (w : SegmentStands (GoodIn b) from l es) → RunStands b from (l ∷ []) es from (from + w.length.sheet)
  further : {from : ℕ} {l : List Item} {es : List Element} {run : List (List Item)} {more : List Element} {start stop : ℕ} (w : SegmentStands (GoodIn b) from l es)
      → RunStands b (from + w.length.sheet) run more start stop → RunStands b from (l ∷ run) (es ++ more) start stop

-- "Element 0 of the profile starts at 0 and each change starts the next": the elements that stand in a run's values, and no others do
pub record TheirElements (b : Brought) (run : List (List Item)) : Type 0 where
  pub elements : List Element
  pub start : ℕ
  pub stop : ℕ
  pub stand : RunStands b 0 run elements start stop
  pub only : (es : List Element) (a e : ℕ) → RunStands b 0 run es a e → (es ≡ elements) × (a ≡ start) × (e ≡ stop)
