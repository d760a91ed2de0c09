-- Both packets of the link: the packet number decides which body follows, in packets and in sheets.
use Rattle.std.specs.Prelude.{Bool, cond, ◌||◌, List, [], ◌∷◌, ℕ, ◌-◌, eqb, ltb, length}
use Rattle.kinds.specs.declared.Item.{Item}
use Rattle.kinds.specs.Kind.{Kind, same}
use Rattle.format.specs.Format.{Format, field, Read, accepted, refused, read, write}
use Rattle.format.specs.Media.{packet, sheet}
use Rattle.grammar.specs.segment.Segment.{header, body, wire_changes}
use Rattle.grammar.specs.segment.Frame.{packet_number, unframed, packet_of_bits}
use Rattle.grammar.specs.segment.Judgement.{segment_number, after_number}
use Rattle.grammar.specs.journey.Journey.{journey_body, constraints}
use Rattle.grammar.specs.declared.link.Tree.{Tree}
use Rattle.grammar.specs.declared.link.Tree.TheVariants.{Segment, Journey}

-- "as packet number 4"; "6 on our link" stays a segment's
abbrev pub tree_number : Tree → ℕ
tree_number Segment = segment_number
tree_number Journey = 4

-- the body of a tree
abbrev pub tree_body : Tree → Format
tree_body Segment = body wire_changes
tree_body Journey = journey_body constraints

-- the header after L_PACKET_ATO, and the body
abbrev pub tree_fields : Tree → Format
tree_fields t = header (tree_body t)

-- the tree of a packet number: a journey's for 4, else a segment's, which refuses every number but 6
abbrev pub tree_of : ℕ → Tree
tree_of n = cond (eqb n 4) Journey Segment

-- "2 now means neither 4 nor 6"
abbrev pub link_number : Kind
link_number = same 8 6 (λ _. 2) (λ n. eqb n 4 || eqb n 6)

-- one tree from the packet number on
unfoldable pub link_fields : Format
unfolding body journey_body
link_fields = field link_number λ n. tree_fields (tree_of n)

-- the packet number among the values
abbrev pub number_among : List Item → ℕ
number_among [] = 0
number_among (i ∷ l) = i.packet

-- the bits of the fields after L_PACKET_ATO, 96 of the header and the body's
abbrev pub link_bits : List Item → List Bool
link_bits l = write packet (tree_fields (tree_of (number_among l))) (after_number l)

-- ---- the judgement of a packet and of a sheet, and the packet and the sheet of the values

unfoldable pub from_either_packet : List ℕ → Read
unfolding body journey_body
from_either_packet s = unframed (tree_number (tree_of (packet_number s))) (tree_fields (tree_of (packet_number s))) s

-- "12 when a sheet's body would exceed 65,535 bits, after 9 and before 8", with the place 0
abbrev pub within_count : Read → Read
within_count (refused r place) = refused r place
within_count (accepted l) = cond (ltb 65535 (length (link_bits l) - 96)) (refused 12 0) (accepted l)

unfoldable pub from_either_sheet : List ℕ → Read
unfolding link_fields
from_either_sheet s = within_count (read sheet link_fields 0 s)

unfoldable pub to_either_packet : List Item → List ℕ
unfolding body journey_body
to_either_packet l = packet_of_bits (tree_number (tree_of (number_among l))) (link_bits l)

unfoldable pub to_either_sheet : List Item → List ℕ
unfolding link_fields
to_either_sheet l = write sheet link_fields l
