-- The altitude of a packet in signed centimetres, as a total function of its bytes.
use Rattle.std.specs.Prelude.{List, ℕ, ℤ, pos, ◌-ℤ◌, get_or}
use Rattle.kinds.specs.declared.Item.{Item}
use Rattle.format.specs.Format.{Read, accepted, refused, packet_values}
use Rattle.grammar.specs.segment.Segment.{wire_changes}
use Rattle.grammar.specs.segment.Judgement.{from_packet}
use Rattle.altitude.specs.declared.Altitude.{Altitude}

-- "Altitude is -100,000 to 948,575 cm and is sent with 100,000 added"
abbrev pub centimetres : ℕ → ℤ
centimetres v = pos v -ℤ pos 100000

-- ".. Q_UTC_Offset 7 (0 to 112), M_SP_Altitude 20": thirteen values stand before it, the packet number first
abbrev pub altitude_field : List Item → ℕ
altitude_field l = get_or (packet_values l) 13 0

-- "It returns its number with length, speed or altitude 0"; "everything above it passes that on with a place"
abbrev pub altitude_of_read : Read → Altitude
altitude_of_read (refused r place) = record { refusal = r; place = place; altitude = pos 0 }
altitude_of_read (accepted l) = record { refusal = 0; place = 0; altitude = centimetres (altitude_field l) }

-- "the altitude of a packet in signed centimetres"
unfoldable pub altitude_of : List ℕ → Altitude
altitude_of s = altitude_of_read (from_packet wire_changes s)
