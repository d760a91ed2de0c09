-- A journey as a question brings it, where no segment will do: the values that it may have, and the ground of each of its own refusals. No reader is run.
use Rattle.std.specs.Prelude.{◌≡◌, List, ℕ, ◌+◌, ◌<◌, length}
use Rattle.kinds.specs.declared.Item.{Item}
use Rattle.format.specs.Media as media
use Rattle.format.specs.Conforming.{Conforming, InSheet}
use Rattle.format.specs.Grounds.{GroupsFault, Ground, Written}
use Rattle.grammar.specs.segment.Grounds.{PacketGround}
use Rattle.grammar.specs.journey.Journey.{journey_fields, journey_sheet, constraints}
use Rattle.grammar.specs.declared.link.Tree.TheVariants.{Journey}
use Rattle.grammar.specs.link.Link.{tree_number, link_bits, to_either_packet, to_either_sheet}
use Rattle.grammar.specs.link.Grounds.{Countable}
use Rattle.speed_question.specs.Question.{Brought, packet, sheet}
use Rattle.promises.specs.Promised.{GoodIn, OfValues}

-- "keeps the published widths and ranges and the stated rules", where a journey is needed: one good value for each field of its tree, and a body that L_PACKET_ATO can count
pub record JourneyValues (b : Brought) (l : List Item) : Type 0 where
  pub good : Conforming (GoodIn b) (journey_sheet constraints) l
  pub few : Countable l

-- "When a packet is written", "numbers one after the other": the journey of the values, as the conversions write it
abbrev pub journey_of : Brought → List Item → List ℕ
journey_of packet = to_either_packet
journey_of sheet = to_either_sheet

-- a journey's packet or sheet that "keeps the published widths and ranges and the stated rules"
abbrev pub JourneyOfValues : Brought → List ℕ → Type 0
JourneyOfValues b s = OfValues (JourneyValues b) (journey_of b) s

-- a journey sheet's own refusals
pub data JourneySheetGround (s : List ℕ) (r place : ℕ) : Type 0 where
  -- 2, 4, 5 or 9: a number, or bytes that are left over
  in_numbers : Ground media.sheet InSheet GroupsFault (journey_sheet constraints) 0 s r place → JourneySheetGround s r place
  -- "12 when a sheet's body would exceed 65,535 bits, after 9 and before 8"
  too_long : (values : List Item) → Written media.sheet InSheet (journey_sheet constraints) s values → 96 + 65535 < length (link_bits values) → r ≡ 12 → place ≡ 0
      → JourneySheetGround s r place

-- "the journey's own (2 for a segment where a journey is needed; of a sheet 12 too)"
abbrev pub JourneyGround : Brought → List ℕ → ℕ → ℕ → Type 0
JourneyGround packet = PacketGround (tree_number Journey) (journey_fields constraints)
JourneyGround sheet = JourneySheetGround
