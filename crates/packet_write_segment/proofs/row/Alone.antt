-- A single field written: from what is left of a part to what is left after the field.
use mathlib.Core.Path.{refl}
use mathlib.Core.List.{List, ◌++◌, append_assoc}
use Prim.Native.Nat.{ℕ, ◌≤◌, ◌<◌, ◌^◌}
use Rattle.bits.specs.Bits.{bits_of}
use Rattle.kinds.specs.Kind.{Kind, up_to}
use Rattle.fields.proofs.Lawful.{up_to_lawful}
use Rattle.format.specs.Format.{Format, field}
use Rattle.format.proofs.Ways.{left_value}
use Rattle.packet_write_segment.specs.declared.elements.PacketSpot.{PacketSpot}
use Rattle.packet_write_segment.specs.internal.elements.Writing.{Ready}
use Rattle.packet_write_segment.proofs.elements.Writing.{Along, along_all, along_next, puts_on, Next}
use Rattle.packet_write_segment.specs.declared.row.Given.{Given}
use Rattle.packet_write_segment.specs.internal.row.Alone.{Offers, Gives}

module _ {width most : ℕ} {s room : List ℕ} {p : PacketSpot} (h : Offers (up_to width most) s room p × (1 ≤ width) × (width ≤ 32) × (most < 2 ^ width)) where
  pub number_next : Next (λ f. field (up_to width most) (λ v. h.0.part v f)) (up_to width most) h.0.part s room p room p
  number_next = record { ready = h.0.ready; along = along_all h.0.ready; lawful = up_to_lawful width most (record { some = h.1; most = h.2 }) h.3; same = λ n. refl }

module _ {s room mid : List ℕ} {u v : PacketSpot} {p : Format → Format} (k : Kind) (part : ℕ → Format → Format) (l : Along p (λ f. field k (λ x. part x f)) s room u mid v) where
  pub along_offers : Ready p s room u → Offers k s mid v
  along_offers h = record { part = part; ready = along_next (λ f. field k (λ x. part x f)) (λ f. f) l h }

  pub along_gives : {end : List ℕ} {r : Given} → Gives k s mid v end r → Along p (part r.value) s room u end r.next
  along_gives {r = r} g =
      record {
        bits = l.bits ++ bits_of k.width r.value;
        gone = λ x. rw (← append_assoc x l.bits (bits_of k.width r.value)) (left_value part (l.gone x) (g.took (x ++ l.bits)));
        puts = puts_on l.puts g.puts;
      }
