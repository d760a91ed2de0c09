-- The listing by its fields: each number that is printed is the number of the value that stands where the tree has its field.
use Rattle.std.specs.Prelude.{◌≡◌, List, ◌++◌, ℕ, pos, ◌-ℤ◌}
use Rattle.kinds.specs.declared.Item.{Item}
use Rattle.format.specs.Conforming.{InPacket}
use Rattle.speed.specs.Speed.{Element}
use Rattle.speed.specs.Standing.{SegmentStands}
use Rattle.text.specs.words.Words.{ascii, signed_decimal, labelled}
use Rattle.text.specs.lines.Lines.{element_lines}

-- "that is NID_C, NID_SP, length and signed altitude in cm, then for each element in order its start in cm, V_STATIC in km/h and Q_FRONT":
-- of the values that stand where the tree has these fields
pub record Named (l : List Item) (text : List ℕ) : Type 0 where
  pub elements : List Element
  pub stands : SegmentStands InPacket 0 l elements
  pub whole : text ≡ ((labelled (ascii "SEGMENT ") stands.country.sheet ++ labelled (ascii " ") stands.identity.sheet)
      ++ (labelled (ascii " LENGTH ") stands.length.sheet ++ ascii " ALTITUDE " ++ signed_decimal (pos stands.altitude.packet -ℤ pos 100000) ++ ascii "\n"))
      ++ element_lines elements
