-- The two conversions, each a total function from bytes and a room to an answer and every byte of the room.
use Rattle.std.specs.Prelude.{cond, List, ◌++◌, ℕ, ltb, length, drop}
use Rattle.kinds.specs.declared.Item.{Item}
use Rattle.format.specs.Format.{Read, accepted, refused}
use Rattle.grammar.specs.link.Link.{from_either_packet, from_either_sheet, to_either_packet, to_either_sheet}
use Rattle.convert.specs.declared.Converted.{Converted}

-- "answer, length and all bytes of the room"
pub record Outcome : Type 0 where
  pub answer : Converted
  pub room : List ℕ

-- "It returns its number with length .. 0, and the lent room keeps every byte it had"; "everything above it passes that on with a place"
abbrev pub refused_with : ℕ → ℕ → List ℕ → Outcome
refused_with r place room = record { answer = record { refusal = r; place = place; length = 0 }; room = room }

-- "Success returns the length, with the bytes past it as they were"; its place is 0
abbrev pub success_with : List ℕ → List ℕ → Outcome
success_with bytes room = record { answer = record { refusal = 0; place = 0; length = length bytes }; room = bytes ++ drop (length bytes) room }

-- "8: result longer than the lent room", with the place 0
abbrev pub fitted : List ℕ → List ℕ → Outcome
fitted bytes room = cond (ltb (length room) (length bytes)) (refused_with 8 0 room) (success_with bytes room)

-- "Conversions then judge 8"
abbrev pub converted : (List Item → List ℕ) → Read → List ℕ → Outcome
converted write (refused r place) room = refused_with r place room
converted write (accepted l) room = fitted (write l) room

-- "packet to sheet", of a segment or a journey
unfoldable pub packet_to_sheet : List ℕ → List ℕ → Outcome
packet_to_sheet s room = converted to_either_sheet (from_either_packet s) room

-- "sheet to packet", of a segment or a journey
unfoldable pub sheet_to_packet : List ℕ → List ℕ → Outcome
sheet_to_packet s room = converted to_either_packet (from_either_sheet s) room
