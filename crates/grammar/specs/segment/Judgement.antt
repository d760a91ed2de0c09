-- The judgement of a packet and of a sheet, and the packet and the sheet of the values, as total functions over the limit of wire changes.
use Rattle.std.specs.Prelude.{List, [], ◌∷◌, ℕ}
use Rattle.kinds.specs.declared.Item.{Item}
use Rattle.format.specs.Format.{Read, read, write}
use Rattle.format.specs.Media.{packet, sheet}
use Rattle.grammar.specs.segment.Segment.{fields, sheet_fields}
use Rattle.grammar.specs.segment.Frame.{unframed, packet_of_bits}

-- "6 on our link"
abbrev pub segment_number : ℕ
segment_number = 6

-- "A packet is judged 1, 2, 3, then field by field in order": the values of a packet, or its refusal
unfoldable pub from_packet : ℕ → List ℕ → Read
unfolding fields
from_packet limit s = unframed segment_number (fields limit) s

-- "A sheet is judged number by number, 9 before 2, 4 or 5; then 9 for bytes left"
unfoldable pub from_sheet : ℕ → List ℕ → Read
unfolding sheet_fields
from_sheet limit s = read sheet (sheet_fields limit) 0 s

-- the values after the packet number, which "comes first"
abbrev pub after_number : List Item → List Item
after_number [] = []
after_number (i ∷ l) = l

-- "When a packet is written": the packet of the values
unfoldable pub to_packet : ℕ → List Item → List ℕ
unfolding fields
to_packet limit l = packet_of_bits segment_number (write packet (fields limit) (after_number l))

-- "numbers one after the other": the sheet of the values
unfoldable pub to_sheet : ℕ → List Item → List ℕ
unfolding sheet_fields
to_sheet limit l = write sheet (sheet_fields limit) l
