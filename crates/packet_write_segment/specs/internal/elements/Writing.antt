-- A part of an accepted sheet's packet, written after the bits before it. The contracts of the code cite it; no promise names it.
use Rattle.std.specs.Prelude.{◌≡◌, Bool, List, ◌++◌, ℕ, ◌+◌, ◌^◌, ◌≤◌, ◌<◌, length, drop}
use Rattle.bits.specs.Bits.{Bytes}
use Rattle.bits.specs.internal.write.Filling.{Filled, Filling}
use Rattle.format.specs.Format.{Format}
use Rattle.format.specs.Media.{packet, sheet}
use Rattle.format.specs.internal.Tasks.{Told, recording}
use Rattle.format.specs.internal.Ways.{Way, passing, Went, Over, Ahead}
use Rattle.packet_write_segment.specs.declared.elements.PacketSpot.{PacketSpot}

-- writing as a pass over the sheet s, which carries the packet bits so far
abbrev pub writer : List ℕ → Way (List Bool) (Told (List Bool))
writer s = passing sheet (recording packet) (λ at. drop at s) (λ at x. at ≤ length s)

-- all fields are written, in fewer than 2^32 bits
abbrev pub Few : Told (List Bool) → Type 0
Few (Told.told x) = length x < 2 ^ 32
Few (Told.not r at) = ⊥

-- A part can be written at p: the room holds the bits before the part, and the sheet from p.from on is accepted as the part and what follows it.
pub record Ready (part : Format → Format) (s room : List ℕ) (p : PacketSpot) : Type 0 where
  pub bytes : Bytes s
  pub inside : p.from ≤ length s
  pub bits : List Bool
  pub filled : Filled bits room p.at p.wait
  pub ahead : Ahead (writer s) Few part p.from bits

-- Bits are put after any bits before them: room becomes after, and the next bit is to.
pub record Puts (room : List ℕ) (at wait : ℕ) (bits : List Bool) (after : List ℕ) (to left : ℕ) : Type 0 where
  pub long : length after ≡ length room
  pub fills : (x : List Bool) → Filled x room at wait → Filled (x ++ bits) after to left

-- A field is put: the room becomes after, the bit after the field is that of q, and the sheet goes on at the byte next.
pub record FieldPut (room : List ℕ) (p : PacketSpot) (width v next : ℕ) (after : List ℕ) (q : PacketSpot) : Type 0 where
  pub filling : Filling room p.at p.wait width v after q.wait
  pub at : q.at ≡ p.at + width
  pub from : q.from ≡ next

-- A part is written from p to q: with any bits before the part and any tree after it, the pass over the part leads from p to q and adds bits.
pub record Wrote (part : Format → Format) (s room : List ℕ) (p : PacketSpot) (after : List ℕ) (q : PacketSpot) : Type 0 where
  pub bits : List Bool
  pub over : (x : List Bool) → Over (writer s) part p.from x (Went.on q.from (x ++ bits))
  pub puts : Puts room p.at p.wait bits after q.at q.wait
