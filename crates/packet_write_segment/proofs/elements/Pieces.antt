-- Parts whose fields are put in one piece: an entry, the front of a profile, a wire, a current.
use mathlib.Core.Path.{◌≡◌, refl, sym}
use mathlib.Core.List.{List, ◌++◌, append_assoc}
use Prim.Native.Nat.{ℕ, ◌+◌, ◌*◌, ◌^◌, ◌<◌}
use native.Mathlib.Omega.{arith}
use lib.Dec.{lit<}
use Rattle.bits.specs.Bits.{bits_of}
use Rattle.bits.proofs.Parts.{join_small}
use Rattle.numbers.specs.declared.accepted.ReadNumber.{ReadNumber}
use Rattle.numbers.specs.internal.accepted.Accepted.{There, Single, Reads}
use Rattle.kinds.specs.Kinds.{q_diff, class, speed, q_front, n_iter, m_voltage, nid_c_traction, m_current}
use Rattle.fields.proofs.Lawful.{narrow, up_to_lawful, class_lawful, speed_lawful, voltage_lawful, traction_lawful, current_lawful}
use Rattle.fields.specs.internal.lower.Lowered.{lowered}
use Rattle.format.specs.Format.{Format, field, then}
use Rattle.grammar.specs.segment.Segment.{profile, voltage, current, entries}
use Rattle.grammar.specs.internal.segment.Parts.{entry}
use Rattle.grammar.proofs.segment.Parts.{class_width}
use Rattle.packet_write_segment.specs.declared.elements.PacketSpot.{PacketSpot}
use Rattle.packet_write_segment.specs.internal.elements.Writing.{FieldPut, Ready, Wrote}
use Rattle.packet_write_segment.proofs.elements.Writing.{bits_join, Has, has_same, has_small, Gone, gone_all, gone_there, gone_single, gone_has, gone_field, Along, wrote_once, along_once}

-- three fields in one piece
three : (a b c x y z t : ℕ) {d : ℕ} → d ≡ b → y < 2 ^ b → z < 2 ^ c → t ≡ x * 2 ^ (b + c) + (y * 2 ^ c + z) → bits_of a x ++ bits_of d y ++ bits_of c z ≡ bits_of (a + (b + c)) t
three a b c x y z t e h l n =
    rw (e, n, bits_join a (b + c) x (y * 2 ^ c + z) (join_small y z b c h l), bits_join b c y z l) (append_assoc (bits_of a x) (bits_of b y) (bits_of c z))

module _ {s room : List ℕ} {p : PacketSpot} (h : Ready entry s room p) where
  abbrev after_q : ℕ → Format → Format
  after_q x f = then (class x) (then speed f)

  pub entry_first : Single s p.from
  entry_first = gone_single h refl q_diff after_q (gone_all h.inside) (up_to_lawful 2 2 (narrow tt) (lit< tt)) (lit< tt)

  module _ {q : ReadNumber} (tq : Reads s p.from q) where
    first : Has q_diff s p.from q.value q.next q.value
    first = has_same (gone_has h refl q_diff after_q (gone_all h.inside) tq) (q_diff.allowed q.value) refl

    one : Gone s entry (after_q q.value) p.from q.next (bits_of 2 q.value)
    one = gone_field q_diff after_q (gone_all h.inside) first

    pub entry_second : There s q.next
    entry_second = gone_there h refl (class q.value) (λ x f. then speed f) one

    pub entry_q : q.value < 4
    entry_q = has_small first (up_to_lawful 2 2 (narrow tt) (lit< tt))

    module _ {a : ReadNumber} (ta : Reads s q.next a) {c : ℕ} (ec : c ≡ lowered (class q.value) a.value) where
      second : Has (class q.value) s q.next a.value a.next c
      second = rw ec (gone_has h refl (class q.value) (λ x f. then speed f) one ta)

      two : Gone s entry (then speed) p.from a.next (bits_of 2 q.value ++ bits_of (class q.value).width c)
      two = gone_field (class q.value) (λ x f. then speed f) one second

      pub entry_third : There s a.next
      entry_third = gone_there h refl speed (λ x f. f) two

      pub entry_class : c < 16
      entry_class = rw (class_width q.value) at (has_small second (class_lawful q.value))

      module _ {v : ReadNumber} (tv : Reads s a.next v) {w : ℕ} (ew : w ≡ lowered speed v.value) where
        third : Has speed s a.next v.value v.next w
        third = rw ew (gone_has h refl speed (λ x f. f) two tv)

        pub entry_speed : w < 128
        entry_speed = has_small third speed_lawful

        pub entry_wrote : {end : List ℕ} {r : PacketSpot} → FieldPut room p 13 (q.value * 2048 + c * 128 + w) v.next end r → Wrote entry s room p end r
        entry_wrote f =
            wrote_once (gone_field speed (λ x f. f) two third) (three 2 4 7 q.value c w (q.value * 2048 + c * 128 + w) (class_width q.value) entry_class entry_speed (omega arith)) f

module _ {s room : List ℕ} {p : PacketSpot} (h : Ready profile s room p) where
  abbrev counted : Format → Format
  counted f = field (n_iter 31) λ m. entries m f

  pub profile_first : There s p.from
  profile_first = gone_there h refl speed (λ x f. then q_front (counted f)) (gone_all h.inside)

  module _ {v : ReadNumber} (tv : Reads s p.from v) {w : ℕ} (ew : w ≡ lowered speed v.value) where
    steps : Has speed s p.from v.value v.next w
    steps = rw ew (gone_has h refl speed (λ x f. then q_front (counted f)) (gone_all h.inside) tv)

    after_speed_lem : Gone s profile (λ f. then q_front (counted f)) p.from v.next (bits_of 7 w)
    after_speed_lem = gone_field speed (λ x f. then q_front (counted f)) (gone_all h.inside) steps

    pub profile_second : Single s v.next
    profile_second = gone_single h refl q_front (λ x f. counted f) after_speed_lem (up_to_lawful 1 1 (narrow tt) (lit< tt)) (lit< tt)

    pub profile_speed : w < 128
    profile_speed = has_small steps speed_lawful

    module _ {q : ReadNumber} (tq : Reads s v.next q) where
      front : Has q_front s v.next q.value q.next q.value
      front = has_same (gone_has h refl q_front (λ x f. counted f) after_speed_lem tq) (q_front.allowed q.value) refl

      after_front_lem : Gone s profile counted p.from q.next (bits_of 7 w ++ bits_of 1 q.value)
      after_front_lem = gone_field q_front (λ x f. counted f) after_speed_lem front

      pub profile_third : Single s q.next
      profile_third = gone_single h refl (n_iter 31) entries after_front_lem (up_to_lawful 5 31 (narrow tt) (lit< tt)) (lit< tt)

      pub profile_front : q.value < 2
      profile_front = has_small front (up_to_lawful 1 1 (narrow tt) (lit< tt))

      module _ {n : ReadNumber} (tn : Reads s q.next n) where
        count : Has (n_iter 31) s q.next n.value n.next n.value
        count = has_same (gone_has h refl (n_iter 31) entries after_front_lem tn) ((n_iter 31).allowed n.value) refl

        pub profile_count : n.value < 32
        profile_count = has_small count (up_to_lawful 5 31 (narrow tt) (lit< tt))

        pub profile_along : {end : List ℕ} {r : PacketSpot} → FieldPut room p 13 (w * 64 + q.value * 32 + n.value) n.next end r → Along profile (entries n.value) s room p end r
        profile_along f =
            along_once (gone_field (n_iter 31) entries after_front_lem count) (three 7 1 5 w q.value n.value (w * 64 + q.value * 32 + n.value) refl profile_front profile_count (omega arith)) f

module _ {s room : List ℕ} {p : PacketSpot} (h : Ready voltage s room p) where
  pub wire_first : There s p.from
  wire_first = gone_there h refl m_voltage (λ x f. then (nid_c_traction x) f) (gone_all h.inside)

  module _ {u : ReadNumber} (tu : Reads s p.from u) {w : ℕ} (ew : w ≡ lowered m_voltage u.value) where
    volts : Has m_voltage s p.from u.value u.next w
    volts = rw ew (gone_has h refl m_voltage (λ x f. then (nid_c_traction x) f) (gone_all h.inside) tu)

    after_volts : Gone s voltage (then (nid_c_traction w)) p.from u.next (bits_of 4 w)
    after_volts = gone_field m_voltage (λ x f. then (nid_c_traction x) f) (gone_all h.inside) volts

    pub wire_second : There s u.next
    wire_second = gone_there h refl (nid_c_traction w) (λ x f. f) after_volts

    pub wire_volts : w < 16
    wire_volts = has_small volts voltage_lawful

    module _ {n : ReadNumber} (tn : Reads s u.next n) where
      traction : Has (nid_c_traction w) s u.next n.value n.next n.value
      traction = has_same (gone_has h refl (nid_c_traction w) (λ x f. f) after_volts tn) ((nid_c_traction w).allowed n.value) refl

      pub wire_traction : n.value < 1024
      wire_traction = has_small traction (traction_lawful w)

      pub wire_wrote : {end : List ℕ} {r : PacketSpot} → FieldPut room p 14 (w * 1024 + n.value) n.next end r → Wrote voltage s room p end r
      wire_wrote f = wrote_once (gone_field (nid_c_traction w) (λ x f. f) after_volts traction) (sym (bits_join 4 10 w n.value wire_traction)) f

module _ {s room : List ℕ} {p : PacketSpot} (h : Ready current s room p) where
  pub current_there : There s p.from
  current_there = gone_there h refl m_current (λ x f. f) (gone_all h.inside)

  module _ {a : ReadNumber} (ta : Reads s p.from a) {w : ℕ} (ew : w ≡ lowered m_current a.value) where
    amperes : Has m_current s p.from a.value a.next w
    amperes = rw ew (gone_has h refl m_current (λ x f. f) (gone_all h.inside) ta)

    pub current_small : w < 1024
    current_small = has_small amperes current_lawful

    pub current_wrote : {end : List ℕ} {r : PacketSpot} → FieldPut room p 10 w a.next end r → Wrote current s room p end r
    current_wrote f = wrote_once (gone_field m_current (λ x f. f) (gone_all h.inside) amperes) refl f
