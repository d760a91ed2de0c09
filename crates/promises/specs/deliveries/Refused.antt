-- The ground of each refusal of the intake, with its place, from any state: of a completion, and of the question for the sheet. No operation is run.
use Rattle.std.specs.Prelude.{◌≡◌, true, false, List, [], ◌∷◌, ◌++◌, ◌⊎◌, ℕ, ◌+◌, ◌≤◌, ◌<◌, length, take, drop}
use Rattle.format.specs.Grounds.{Among}
use Rattle.grammar.specs.segment.Grounds.{packet_refusals}
use Rattle.grammar.specs.link.Link.{to_either_packet}
use Rattle.grammar.specs.link.Grounds.{EitherPacketGround, EitherPacketValues}
use Rattle.intake.specs.declared.Intake.{Intake}
use Rattle.intake.specs.Intake.{gathering, passed, gathered, holds, Delivered}
use Rattle.promises.specs.Promised.{OfValues, ConvertiblePacket}
use Rattle.promises.specs.Refused.{PacketToSheetGround, packet_to_sheet_refusals}

-- ---- "Let a packet be taken in several deliveries, some with no bytes, into a lent room"

-- how a delivery ends, whatever the state: it has no refusal
pub data DeliveryEnds (i : Intake) (d room : List ℕ) (o : Delivered) : Type 0 where
  -- "some with no bytes": the state and the room stay
  idle : length d ≡ 0 → o ≡ record { intake = i; room = room } → DeliveryEnds i d room o
  -- its bytes stand behind those that are in the room, and every other byte of the room stays
  put : 1 ≤ length d → (i.phase ≡ 1 → ⊥) → holds room (gathered i + length d) ≡ true
      → o ≡ record { intake = gathering (gathered i + length d); room = take (gathered i) room ++ (d ++ drop (gathered i + length d) room) } → DeliveryEnds i d room o
  -- "A delivery that would pass the room's end, and each after it, writes nothing until completion"
  unwritten : 1 ≤ length d → (i.phase ≡ 1) ⊎ (holds room (gathered i + length d) ≡ false) → o ≡ record { intake = passed; room = room } → DeliveryEnds i d room o

-- ---- "judged when the radio says the packet is complete"

-- the deliveries did not pass the room's end, and the room has the bytes that the state counts
pub record Complete (i : Intake) (room : List ℕ) : Type 0 where
  pub held : i.phase ≡ 1 → ⊥
  pub whole : gathered i ≤ length room

-- a packet that is complete and "keeps the published widths and ranges and the stated rules"
pub record Acceptable (i : Intake) (room : List ℕ) : Type 0 where
  pub complete : Complete i room
  pub good : OfValues EitherPacketValues to_either_packet (take (gathered i) room)

pub data CompletionGround (i : Intake) (room : List ℕ) (r place : ℕ) : Type 0 where
  -- "8 at completion, before all others, if the deliveries together exceeded the room": they passed its end, or the state counts more bytes than it has
  exceeded : (i.phase ≡ 1) ⊎ (length room < gathered i) → r ≡ 8 → place ≡ 0 → CompletionGround i room r place
  own : Complete i room → EitherPacketGround (take (gathered i) room) r place → CompletionGround i room r place

-- the refusals of a completion: a packet's, and 8
abbrev pub completion_refusals : List ℕ
completion_refusals = packet_refusals ++ 8 ∷ []

-- ---- "the sheet can be asked for"

-- the state has a verdict, as a completion gives it: 0 to 8 or 13, and no place with 0, 1, 2, 3 and 8
pub record Judged (i : Intake) : Type 0 where
  pub phase : i.phase ≡ 2
  pub listed : (i.refusal ≤ 8) ⊎ (i.refusal ≡ 13)
  pub unplaced : (i.refusal ≤ 3) ⊎ (i.refusal ≡ 8) → i.place ≡ 0

-- the verdict was no refusal, the packet's room is whole, and its sheet "is converted if the room holds the result"
pub record Askable (i : Intake) (taken room : List ℕ) : Type 0 where
  pub judged : Judged i
  pub accepted : i.refusal ≡ 0
  pub whole : i.length ≤ length taken
  pub converts : ConvertiblePacket (take i.length taken) room

pub data AskedGround (i : Intake) (taken room : List ℕ) (r place : ℕ) : Type 0 where
  -- "14 asked too early"
  early : (Judged i → ⊥) → r ≡ 14 → place ≡ 0 → AskedGround i taken room r place
  -- "where the verdict was a refusal, asking returns that number again"
  again : Judged i → 1 ≤ i.refusal → r ≡ i.refusal → place ≡ i.place → AskedGround i taken room r place
  -- "or, after a verdict that was no refusal, with the packet's room cut short"
  cut_short : Judged i → i.refusal ≡ 0 → length taken < i.length → r ≡ 14 → place ≡ 0 → AskedGround i taken room r place
  own : Judged i → i.refusal ≡ 0 → i.length ≤ length taken → PacketToSheetGround (take i.length taken) room r place → AskedGround i taken room r place

-- the refusals of the question for the sheet: a conversion's, and 14
abbrev pub asked_refusals : List ℕ
asked_refusals = packet_to_sheet_refusals ++ 14 ∷ []

-- what a caller may rely on at completion, whatever the state: a verdict, and of an accepted packet its bytes
pub data CompletionEnds (i o : Intake) : Type 0 where
  success : Judged o → o.refusal ≡ 0 → o.length ≡ gathered i → CompletionEnds i o
  refusal : Judged o → Among o.refusal completion_refusals → CompletionEnds i o
