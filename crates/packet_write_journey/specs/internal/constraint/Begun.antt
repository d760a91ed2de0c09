-- The first fields of a part, written into an accepted sheet's packet. Used by contracts of the code; no promise names these.
use Rattle.std.specs.Prelude.{Bool, List, ◌++◌, ℕ}
use Rattle.format.specs.Format.{Format}
use Rattle.format.specs.internal.Ways.{Left}
use Rattle.packet_write_segment.specs.declared.elements.PacketSpot.{PacketSpot}
use Rattle.packet_write_segment.specs.internal.elements.Writing.{writer, Puts}
use Rattle.packet_write_segment.specs.declared.row.Given.{Given}

-- The first fields are written, and what is left of the part depends on the value r; this holds whatever stands before the part or after it.
pub record Begun (part : Format → Format) (rest : ℕ → Format → Format) (s room : List ℕ) (p : PacketSpot) (after : List ℕ) (r : Given) : Type 0 where
  pub bits : List Bool
  pub left : (x : List Bool) → Left (writer s) part (rest r.value) p.from x r.next.from (x ++ bits)
  pub puts : Puts room p.at p.wait bits after r.next.at r.next.wait
