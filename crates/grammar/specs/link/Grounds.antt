-- The ground of each refusal of a packet and of a sheet on the link, for a segment and for a journey. No reader is run.
use Rattle.std.specs.Prelude.{◌≡◌, List, [], ◌∷◌, ℕ, ◌+◌, ◌≤◌, ◌<◌, length}
use Rattle.kinds.specs.declared.Item.{Item}
use Rattle.format.specs.Media.{sheet}
use Rattle.format.specs.Conforming.{Conforming, InPacket, InSheet}
use Rattle.format.specs.Grounds.{GroupsFault, Ground, Written}
use Rattle.grammar.specs.segment.Frame.{packet_number}
use Rattle.grammar.specs.segment.Grounds.{PacketGround}
use Rattle.grammar.specs.declared.link.Tree.TheVariants.{Segment, Journey}
use Rattle.grammar.specs.link.Link.{tree_number, tree_fields, link_fields, link_bits}

-- a journey's own ground where the packet number is 4, and else a segment's: "2 now means neither 4 nor 6"
pub data EitherPacketGround (s : List ℕ) (r place : ℕ) : Type 0 where
  of_journey : packet_number s ≡ 4 → PacketGround (tree_number Journey) (tree_fields Journey) s r place → EitherPacketGround s r place
  of_segment : (packet_number s ≡ 4 → ⊥) → PacketGround (tree_number Segment) (tree_fields Segment) s r place → EitherPacketGround s r place

-- a body that L_PACKET_ATO can count
abbrev pub Countable : List Item → Type 0
Countable l = length (link_bits l) ≤ 96 + 65535

-- "12 when a sheet's body would exceed 65,535 bits, after 9 and before 8"
pub data EitherSheetGround (s : List ℕ) (r place : ℕ) : Type 0 where
  -- 2, 4, 5 or 9: a number, or bytes that are left over
  in_numbers : Ground sheet InSheet GroupsFault link_fields 0 s r place → EitherSheetGround s r place
  too_long : (values : List Item) → Written sheet InSheet link_fields s values → 96 + 65535 < length (link_bits values) → r ≡ 12 → place ≡ 0
      → EitherSheetGround s r place

-- "keeps the published widths and ranges and the stated rules": one good value for each field of the tree, and a body that L_PACKET_ATO can count
pub record EitherPacketValues (l : List Item) : Type 0 where
  pub good : Conforming InPacket link_fields l
  pub few : Countable l

pub record EitherSheetValues (l : List Item) : Type 0 where
  pub good : Conforming InSheet link_fields l
  pub few : Countable l

-- the refusals of a sheet
abbrev pub either_sheet_refusals : List ℕ
either_sheet_refusals = 2 ∷ 4 ∷ 5 ∷ 9 ∷ 12 ∷ []
