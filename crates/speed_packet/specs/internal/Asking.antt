-- The fields of an accepted packet, at places, as the contracts say it. No promise names them.
use Rattle.std.specs.Prelude.{◌≡◌, List, ℕ, ◌+◌, ◌*◌, ◌^◌, ◌≤◌, ◌<◌, length}
use Rattle.kinds.specs.declared.Item.{Item}
use Rattle.format.specs.Format.{Format, accepted, read, values_of, sheet_numbers}
use Rattle.format.specs.Media.{packet}
use Rattle.format.specs.internal.Places.{bits_between}
use Rattle.grammar.specs.segment.Segment.{wire_changes}
use Rattle.grammar.specs.segment.Frame.{body_bits}
use Rattle.grammar.specs.segment.Judgement.{from_packet}

-- the packet is accepted
abbrev pub AcceptedPacket : List ℕ → Type 0
AcceptedPacket s = from_packet wire_changes s ≡ accepted (values_of (from_packet wire_changes s))

-- the numbers of its sheet
abbrev pub numbers_of_packet : List ℕ → List ℕ
numbers_of_packet s = sheet_numbers (values_of (from_packet wire_changes s))

-- the bit where a packet's fields end
abbrev pub end_of : List ℕ → ℕ
end_of s = 120 + body_bits s

-- the tree f stands at the bit at, and is accepted with the values l
pub record Reads (s : List ℕ) (f : Format) (at : ℕ) (l : List Item) : Type 0 where
  pub before : at ≤ end_of s
  pub inside : end_of s ≤ 8 * length s
  pub few : end_of s < 2 ^ 32
  pub long : 8 ≤ length s
  pub reads : read packet f at (bits_between s at (end_of s)) ≡ accepted l
