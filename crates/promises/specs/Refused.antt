-- The ground of each refusal of each public operation, with its place: 15 and 16 of a speed question, the refusals of a packet or sheet itself, 8 of a conversion, 10 and 11 of a speed question. No operation is run.
use Rattle.std.specs.Prelude.{◌≡◌, true, false, List, [], ◌∷◌, ℕ, ◌≤◌, ◌<◌, length}
use Rattle.kinds.specs.declared.Item.{Item}
use Rattle.grammar.specs.segment.Segment.{fields, wire_changes}
use Rattle.grammar.specs.segment.Judgement.{segment_number}
use Rattle.grammar.specs.segment.Grounds.{PacketGround, SheetGround, packet_refusals}
use Rattle.grammar.specs.link.Link.{to_either_packet, to_either_sheet}
use Rattle.grammar.specs.link.Grounds.{EitherPacketGround, EitherSheetGround, EitherPacketValues, EitherSheetValues}
use Rattle.speed.specs.declared.Train.{Train}
use Rattle.speed.specs.Speed.{valid_train, segment_length}
use Rattle.speed.specs.Run.{numbers_of, last_of}
use Rattle.speed_question.specs.Question.{Brought, packet, sheet, medium_of, Neither, run_count}
use Rattle.speed_question.specs.Grounds.{RunGround}
use Rattle.promises.specs.Promised.{OfValues, SegmentOfValues, RunOfValues}

-- "everything above it passes that on with a place": `said`, the refusal and the place of an answer, is r at `place`, and r is not 0, which is success
abbrev pub Refuses : ℕ × ℕ → ℕ → ℕ → Type 0
Refuses said r place = (said ≡ (r, place)) × (1 ≤ r)

-- "Conversions then judge 8"; "For .. 8 .. it is 0"
pub data ConversionGround (Own : ℕ → ℕ → Type 0) (Good : List Item → Type 0) (input result : List Item → List ℕ) (s room : List ℕ) (r place : ℕ) : Type 0 where
  own : Own r place → ConversionGround Own Good input result s room r place
  -- "8: result longer than the lent room"
  short_room : (w : OfValues Good input s) → length room < length (result w.values) → r ≡ 8 → place ≡ 0 → ConversionGround Own Good input result s room r place

-- "A packet is judged 1, 2, 3, then field by field", "A sheet is judged number by number": the segment's own refusals
abbrev pub SegmentGround : Brought → List ℕ → ℕ → ℕ → Type 0
SegmentGround packet = PacketGround segment_number (fields wire_changes)
SegmentGround sheet = SheetGround wire_changes

-- "16 .., judged right after 15; each segment is then judged in order (place within it), then 10, then 11 against the last"; "numbers above 13 it is 0"
pub data SpeedGround (medium count : ℕ) (run : List (List ℕ)) (t : Train) (x r place : ℕ) : Type 0 where
  -- "15, first of all, for a kind that is neither": nothing is said of the count, the segments, the train and x
  neither : Neither medium → r ≡ 15 → place ≡ 0 → SpeedGround medium count run t x r place
  -- "16 for a run of none or more than 4": nothing is said of the segments, the train and x
  bad_count : (b : Brought) → medium ≡ medium_of b → run_count count ≡ false → r ≡ 16 → place ≡ 0 → SpeedGround medium count run t x r place
  -- the first segment that is not of good values has this ground
  own : (b : Brought) → medium ≡ medium_of b → run_count count ≡ true → RunGround (SegmentGround b) (SegmentOfValues b) r place run → SpeedGround medium count run t x r place
  -- "10: train length or cant deficiency not allowed"; "10 also covers a maximum outside its range"
  bad_train : (b : Brought) → medium ≡ medium_of b → run_count count ≡ true → RunOfValues b run → valid_train t ≡ false → r ≡ 10 → place ≡ 0
      → SpeedGround medium count run t x r place
  -- "11: x at or past L_SP"
  past_end : (b : Brought) → medium ≡ medium_of b → run_count count ≡ true → (w : RunOfValues b run)
      → valid_train t ≡ true → segment_length (last_of (numbers_of w.values)) ≤ x → r ≡ 11 → place ≡ 0 → SpeedGround medium count run t x r place

-- ---- by name, with the refusals that the C header lists

-- "packet to sheet"
abbrev pub PacketToSheetGround : List ℕ → List ℕ → ℕ → ℕ → Type 0
PacketToSheetGround s room r place = ConversionGround (EitherPacketGround s) EitherPacketValues to_either_packet to_either_sheet s room r place

-- the refusals of packet to sheet: those of a packet, 1 to 7 and 13; "Conversions then judge 8"
abbrev pub packet_to_sheet_refusals : List ℕ
packet_to_sheet_refusals = 1 ∷ 2 ∷ 3 ∷ 4 ∷ 5 ∷ 6 ∷ 7 ∷ 13 ∷ 8 ∷ []

-- "sheet to packet"
abbrev pub SheetToPacketGround : List ℕ → List ℕ → ℕ → ℕ → Type 0
SheetToPacketGround s room r place = ConversionGround (EitherSheetGround s) EitherSheetValues to_either_sheet to_either_packet s room r place

-- the refusals of sheet to packet: "9 before 2, 4 or 5"; "12 when a sheet's body would exceed 65,535 bits"; "Conversions then judge 8"
abbrev pub sheet_to_packet_refusals : List ℕ
sheet_to_packet_refusals = 2 ∷ 4 ∷ 5 ∷ 8 ∷ 9 ∷ 12 ∷ []

-- the refusals of a speed question after 15 and 16: those of a packet, 1 to 7 and 13, or of a sheet, 2, 4, 5 and 9; "then 10, then 11"
abbrev pub speed_refusals : Brought → List ℕ
speed_refusals packet = 1 ∷ 2 ∷ 3 ∷ 4 ∷ 5 ∷ 6 ∷ 7 ∷ 13 ∷ 10 ∷ 11 ∷ []
speed_refusals sheet = 2 ∷ 4 ∷ 5 ∷ 9 ∷ 10 ∷ 11 ∷ []

-- the refusals of "the altitude of a packet": those of a packet, 1 to 7 and 13
abbrev pub altitude_refusals : List ℕ
altitude_refusals = packet_refusals

-- "For 1, 2, 3, 8, 10 to 12, success and, unless said, numbers above 13 it is 0"
abbrev pub placeless : List ℕ
placeless = 0 ∷ 1 ∷ 2 ∷ 3 ∷ 8 ∷ 10 ∷ 11 ∷ 12 ∷ 14 ∷ 15 ∷ 16 ∷ 17 ∷ 18 ∷ 21 ∷ []
