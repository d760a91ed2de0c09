-- The ground of each refusal of a packet and of a sheet, in the document's order, for any packet number and tree. No reader is run.
use Rattle.std.specs.Prelude.{◌≡◌, Bool, true, cond, List, [], ◌∷◌, ◌++◌, ℕ, ◌+◌, ◌/◌, ◌≤◌, ◌<◌, leb, length}
use Rattle.bits.specs.Bits.{fill}
use Rattle.kinds.specs.declared.Item.{Item}
use Rattle.kinds.specs.Kind.{Kind}
use Rattle.kinds.specs.Kinds.{d_location}
use Rattle.format.specs.Format.{Format}
use Rattle.format.specs.Media.{packet, sheet}
use Rattle.format.specs.Conforming.{InPacket, InSheet}
use Rattle.format.specs.Grounds.{BitsFault, GroupsFault, Ground, Written}
use Rattle.grammar.specs.segment.Segment.{sheet_fields}
use Rattle.grammar.specs.segment.Frame.{packet_number, body_bits, field_bits, padding}

-- "bytes are .. 15 + L_PACKET_ATO / 8, rounded up"
abbrev pub Sized : List ℕ → Type 0
Sized s = length s ≡ 15 + (body_bits s + 7) / 8

-- "judged 1, 2, 3": no ground for one of them, where the packet number is to be n
pub record WellFramed (n : ℕ) (s : List ℕ) : Type 0 where
  pub long : 15 ≤ length s
  pub number : packet_number s ≡ n
  pub size : Sized s

-- "a padding bit is 1": zero bits from the place at on and then a 1, "the first bit that is 1"
pub record FirstOne (at : ℕ) (bits : List Bool) (place : ℕ) : Type 0 where
  pub zeros : ℕ
  pub more : List Bool
  pub whole : bits ≡ fill zeros [] ++ true ∷ more
  pub stands : place ≡ at + zeros

-- "A packet is judged 1, 2, 3, then field by field in order (6 before 4 or 5)", then 13 for bits left, "then 7"; "For 1, 2, 3 .. it is 0"
pub data PacketGround (n : ℕ) (f : Format) (s : List ℕ) (r place : ℕ) : Type 0 where
  -- "1: a packet has fewer than 15 bytes"
  short : length s < 15 → r ≡ 1 → place ≡ 0 → PacketGround n f s r place
  -- "2: packet number is not 6", 4 for a journey
  other_number : 15 ≤ length s → (packet_number s ≡ n → ⊥) → r ≡ 2 → place ≡ 0 → PacketGround n f s r place
  -- "3: bytes are not 15 + L_PACKET_ATO / 8, rounded up"
  other_size : 15 ≤ length s → packet_number s ≡ n → (Sized s → ⊥) → r ≡ 3 → place ≡ 0 → PacketGround n f s r place
  -- 4, 5, 6 or 13: a field, or bits that are left over, "counted from 0 at the packet's start"
  in_fields : WellFramed n s → Ground packet InPacket BitsFault f 24 (field_bits s) r place → PacketGround n f s r place
  -- "7: a padding bit is 1"
  in_padding : WellFramed n s → (values : List Item) → Written packet InPacket f (field_bits s) values → FirstOne (120 + body_bits s) (padding s) place → r ≡ 7
      → PacketGround n f s r place

-- "A sheet is judged number by number, 9 before 2, 4 or 5; then 9 for bytes left"
abbrev pub SheetGround : ℕ → List ℕ → ℕ → ℕ → Type 0
SheetGround limit s r place = Ground sheet InSheet GroupsFault (sheet_fields limit) 0 s r place

-- "4: a field outside its range or set", "5: a change's location ..; 4 is not given for locations of changes", "5, at the end field, for start not below end", and 4 where the end is no number of 24 bits
pub data FieldRefusal (k : Kind) : Type 0 where
  as_value : ((v : ℕ) → k.refusal v ≡ 4) → FieldRefusal k
  as_end : ((v : ℕ) → k.refusal v ≡ cond (leb v k.largest) 5 4) → FieldRefusal k
  as_location : (last lsp : ℕ) → k ≡ d_location last lsp → FieldRefusal k

-- "A packet is judged 1, 2, 3, then .. 6 before 4 or 5 .., then 7", "13 is new": its refusals
abbrev pub packet_refusals : List ℕ
packet_refusals = 1 ∷ 2 ∷ 3 ∷ 4 ∷ 5 ∷ 6 ∷ 7 ∷ 13 ∷ []

-- "9 before 2, 4 or 5": the refusals of a sheet
abbrev pub sheet_refusals : List ℕ
sheet_refusals = 2 ∷ 4 ∷ 5 ∷ 9 ∷ []
