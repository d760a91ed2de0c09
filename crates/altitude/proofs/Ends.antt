-- The lowest and the highest altitude, altitude 0, and the altitude of the document's sample packet.
use mathlib.Core.Path.{◌≡◌, refl}
use lib.IntN.{pos, negsuc}
use Rattle.bits.specs.Bits.{field_at}
use Rattle.kinds.specs.Kinds.{digits}
use Rattle.grammar.specs.segment.Segment.{entries, changes}
use Rattle.grammar.specs.segment.Judgement.{from_packet}
use Rattle.grammar.specs.segment.Desk.{first_packet}
use Rattle.altitude.specs.Altitude.{centimetres, altitude_of}

-- "Altitude is -100,000 to 948,575 cm"
pub least : centimetres 0 ≡ negsuc 99999
least = refl

pub zero_altitude : centimetres 100000 ≡ pos 0
zero_altitude = refl

pub largest : centimetres 1048575 ≡ pos 948575
largest = refl

-- "is accepted: 39 bytes, length 1 cm, altitude -100,000"
pub sample : altitude_of first_packet ≡ record { refusal = 0; place = 0; altitude = negsuc 99999 }
unfolding altitude_of from_packet field_at digits entries changes
sample = refl
