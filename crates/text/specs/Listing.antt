-- The listing of a packet: the text that the program writes, as a total function of the packet's bytes.
use Rattle.std.specs.Prelude.{List, ◌++◌, ℕ, length, drop}
use Rattle.format.specs.Format.{Read, accepted, refused, sheet_numbers}
use Rattle.grammar.specs.segment.Segment.{wire_changes}
use Rattle.grammar.specs.segment.Judgement.{from_packet}
use Rattle.altitude.specs.Altitude.{centimetres, altitude_field}
use Rattle.text.specs.words.Words.{ascii, labelled}
use Rattle.text.specs.lines.Lines.{lines}

-- "The listing prints "REFUSED 13 AT 305""
abbrev pub refused_line : ℕ → ℕ → List ℕ
refused_line r place = labelled (ascii "REFUSED ") r ++ labelled (ascii " AT ") place ++ ascii "\n"

-- "writes "REFUSED n" or a listing"
abbrev pub listed : Read → List ℕ
listed (refused r place) = refused_line r place
listed (accepted l) = lines (centimetres (altitude_field l)) (sheet_numbers l)

-- "A small program lists a packet"
unfoldable pub listing_of : List ℕ → List ℕ
listing_of s = listed (from_packet wire_changes s)

-- "the whole output": the length of the text, and the room that begins with it
pub record Listed : Type 0 where
  pub length : ℕ
  pub room : List ℕ

-- "the whole output", at the front of a room
unfoldable pub listing_in : List ℕ → List ℕ → Listed
listing_in s room = record { length = length (listing_of s); room = listing_of s ++ drop (length (listing_of s)) room }
