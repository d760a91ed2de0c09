-- A single field, written into an accepted sheet's packet. Used by contracts of the code; no promise names these.
use Rattle.std.specs.Prelude.{Bool, List, ◌++◌, ℕ, ◌^◌, ◌≤◌, ◌<◌}
use Rattle.bits.specs.Bits.{bits_of}
use Rattle.numbers.specs.declared.accepted.ReadNumber.{ReadNumber}
use Rattle.numbers.specs.internal.accepted.Accepted.{There, Reads}
use Rattle.kinds.specs.Kind.{Kind}
use Rattle.format.specs.Format.{Format, field}
use Rattle.format.specs.internal.Ways.{Got, Took}
use Rattle.packet_write_segment.specs.declared.elements.PacketSpot.{PacketSpot}
use Rattle.packet_write_segment.specs.internal.elements.Writing.{writer, FieldPut, Ready, Puts}
use Rattle.packet_write_segment.specs.declared.row.Given.{Given}

-- A number that fits a field of width bits is next.
pub record Fitting (s : List ℕ) (p : PacketSpot) (width : ℕ) : Type 0 where
  pub there : There s p.from
  pub some : 1 ≤ width
  pub most : width ≤ 32
  pub small : {t : ReadNumber} → Reads s p.from t → t.value < 2 ^ width
  pub near : p.at < 2 ^ 32

-- The next number is put as a field of width bits.
pub record Copied (s room : List ℕ) (p : PacketSpot) (width : ℕ) (after : List ℕ) (r : Given) : Type 0 where
  pub reads : Reads s p.from (record { value = r.value; next = r.next.from })
  pub put : FieldPut room p width r.value r.next.from after r.next

-- A number of the kind k is next: the sheet is accepted with it and what follows it, which may depend on its value.
pub record Offers (k : Kind) (s room : List ℕ) (p : PacketSpot) : Type 0 where
  pub part : ℕ → Format → Format
  pub ready : Ready (λ f. field k (λ v. part v f)) s room p

-- The value of the next number is written; this holds whatever stands before the field or after it.
pub record Gives (k : Kind) (s room : List ℕ) (p : PacketSpot) (after : List ℕ) (r : Given) : Type 0 where
  pub took : (x : List Bool) → Took (writer s) k p.from x (Got.is r.value r.next.from (x ++ bits_of k.width r.value))
  pub puts : Puts room p.at p.wait (bits_of k.width r.value) after r.next.at r.next.wait
