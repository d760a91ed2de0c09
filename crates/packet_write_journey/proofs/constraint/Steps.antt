-- A temporary constraint, field by field: what is read next, how large it is, and that the whole constraint is written at the end.
use mathlib.Core.Path.{◌≡◌, refl}
use mathlib.Core.List.{List}
use Prim.Native.Nat.{ℕ, ◌+◌, ◌*◌, ◌^◌, ◌<◌}
use native.Mathlib.Omega.{arith}
use lib.Dec.{lit<}
use Rattle.bits.specs.Bits.{bits_of}
use Rattle.numbers.specs.declared.accepted.ReadNumber.{ReadNumber}
use Rattle.numbers.specs.internal.accepted.Accepted.{There, Reads}
use Rattle.kinds.specs.Kind.{Kind}
use Rattle.kinds.specs.Kinds.{speed, no_current}
use Rattle.fields.proofs.Lawful.{narrow, up_to_lawful}
use Rattle.fields.specs.internal.lower.Lowered.{lowered}
use Rattle.format.specs.Format.{Format, field, then}
use Rattle.kinds.specs.journey.Kinds.{q_tc_type, q_tc_range, d_tc_start_location, d_tc_end_location, q_tc_front, v_speed_level, q_low_adhesion_rate}
use Rattle.grammar.specs.journey.Journey.{restriction, temporary_constraint}
use Rattle.grammar.specs.internal.journey.Parts.{after_type, after_range}
use Rattle.grammar.proofs.journey.Tree.{end_width, level_width, start_lawful, end_lawful, front_lawful, level_lawful, adhesion_lawful}
use Rattle.packet_write_segment.specs.declared.elements.PacketSpot.{PacketSpot}
use Rattle.packet_write_segment.specs.internal.elements.Writing.{FieldPut, Ready, Wrote}
use Rattle.packet_write_segment.proofs.elements.Writing.{bits_join, Has, has_same, has_small, Gone, gone_all, gone_there, gone_has, gone_field, Along, along_next, along_on, along_none, wrote_once, along_once, Next, next_fits, next_on}
use Rattle.packet_write_segment.specs.declared.row.Given.{Given}
use Rattle.packet_write_segment.specs.internal.row.Alone.{Copied, Fitting}
use Rattle.packet_write_journey.specs.internal.constraint.Begun.{Begun}
use Rattle.packet_write_journey.proofs.constraint.Values.{end_same, level_steps, no_limit}

-- one more field in a piece
more : (a h : ℕ) {s : List ℕ} {p : Format → Format} {from to : ℕ} (k : Kind) (part : ℕ → Format → Format) → Gone s p (λ f. field k (λ v. part v f)) from to (bits_of a h)
    → {n after v : ℕ} → Has k s to n after v → {w : ℕ} → k.width ≡ w → v < 2 ^ w → Gone s p (part v) from after (bits_of (a + w) (h * 2 ^ w + v))
more a h k part g {v = v} d {w} e l = rw (bits_join a w h v l) (rw e at (gone_field k part g d))

-- ---- the type, the range and the locations

module _ {s room : List ℕ} {p : PacketSpot} (h : Ready temporary_constraint s room p) where
  pub type_there : There s p.from
  type_there = gone_there h refl q_tc_type after_type (gone_all h.inside)

  module _ {t : ReadNumber} (dt : Reads s p.from t) where
    type : Has q_tc_type s p.from t.value t.next t.value
    type = has_same (gone_has h refl q_tc_type after_type (gone_all h.inside) dt) (q_tc_type.allowed t.value) refl

    type_small : t.value < 4
    type_small = has_small type (up_to_lawful 2 3 (narrow tt) (lit< tt))

    one : Gone s temporary_constraint (after_type t.value) p.from t.next (bits_of 2 t.value)
    one = gone_field q_tc_type after_type (gone_all h.inside) type

    pub range_there : There s t.next
    range_there = gone_there h refl q_tc_range (after_range t.value) one

    module _ {g : ReadNumber} (dg : Reads s t.next g) where
      range : Has q_tc_range s t.next g.value g.next g.value
      range = has_same (gone_has h refl q_tc_range (after_range t.value) one dg) (q_tc_range.allowed g.value) refl

      range_small : g.value < 4
      range_small = has_small range (up_to_lawful 2 3 (narrow tt) (lit< tt))

      abbrev after_start : ℕ → Format → Format
      after_start start f = then (d_tc_end_location g.value start) (restriction t.value f)

      two : Gone s temporary_constraint (after_range t.value g.value) p.from g.next (bits_of 4 (t.value * 4 + g.value))
      two = more 2 t.value q_tc_range (after_range t.value) one range refl range_small

      pub start_there : There s g.next
      start_there = gone_there h refl (d_tc_start_location g.value) after_start two

      module _ {a : ReadNumber} (da : Reads s g.next a) where
        start : Has (d_tc_start_location g.value) s g.next a.value a.next a.value
        start = has_same (gone_has h refl (d_tc_start_location g.value) after_start two da) ((d_tc_start_location g.value).allowed a.value) refl

        start_small : a.value < 16777216
        start_small = has_small start (start_lawful g.value)

        abbrev end : Kind
        end = d_tc_end_location g.value a.value

        abbrev after_end : ℕ → Format → Format
        after_end _ f = restriction t.value f

        three : Gone s temporary_constraint (after_start a.value) p.from a.next (bits_of 28 ((t.value * 4 + g.value) * 16777216 + a.value))
        three = more 4 (t.value * 4 + g.value) (d_tc_start_location g.value) after_start two start refl start_small

        pub location_small : (t.value < 4) × (g.value < 4) × (a.value < 16777216)
        location_small = (type_small, range_small, start_small)

        module _ {mid : List ℕ} {q : PacketSpot} (f : FieldPut room p 28 (t.value * 67108864 + g.value * 16777216 + a.value) a.next mid q) where
          last : Next temporary_constraint end after_end s room p mid q
          last =
              let n : (t.value * 4 + g.value) * 16777216 + a.value ≡ t.value * 67108864 + g.value * 16777216 + a.value = omega arith in
              record { ready = h; along = along_once (rw n at three) refl f; lawful = end_lawful g.value a.value; same = end_same g.value a.value }

          pub end_fits : Fitting s q 24
          end_fits = rw (end_width g.value a.value) at (next_fits last)

          pub begun : {after : List ℕ} {r : Given} → Copied s mid q 24 after r → Begun temporary_constraint restriction s room p after (record { value = t.value; next = r.next })
          begun d = let m = next_on last (end_width g.value a.value) d in record { bits = m.bits; left = m.gone; puts = m.puts }

-- ---- the restriction

module _ (type : ℕ) {s room : List ℕ} {p : PacketSpot} (h : Ready (restriction type) s room p) where
  abbrev after_adhesion : Format → Format
  after_adhesion f = then no_current f

  abbrev after_speed : Format → Format
  after_speed f = then (q_low_adhesion_rate type) (after_adhesion f)

  abbrev after_front : Format → Format
  after_front f = then (v_speed_level type) (after_speed f)

  pub front_there : There s p.from
  front_there = gone_there h refl (q_tc_front type) (λ _. after_front) (gone_all h.inside)

  module _ {t : ReadNumber} (dt : Reads s p.from t) where
    front : Has (q_tc_front type) s p.from t.value t.next t.value
    front = has_same (gone_has h refl (q_tc_front type) (λ _. after_front) (gone_all h.inside) dt) ((q_tc_front type).allowed t.value) refl

    front_small : t.value < 2
    front_small = has_small front (front_lawful type)

    first : Gone s (restriction type) after_front p.from t.next (bits_of 1 t.value)
    first = gone_field (q_tc_front type) (λ _. after_front) (gone_all h.inside) front

    pub speed_there : There s t.next
    speed_there = gone_there h refl (v_speed_level type) (λ _. after_speed) first

    module _ {v : ReadNumber} (dv : Reads s t.next v) {w : ℕ} (ew : w ≡ lowered speed v.value) where
      level : Has (v_speed_level type) s t.next v.value v.next w
      level =
          let k = gone_has h refl (v_speed_level type) (λ _. after_speed) first dv in
          rw (ew, ← level_steps type v.value (lowered (v_speed_level type) v.value) k.lower) k

      speed_small : w < 128
      speed_small = rw (level_width type) at (has_small level (level_lawful type))

      second : Gone s (restriction type) after_speed p.from v.next (bits_of 8 (t.value * 128 + w))
      second = more 1 t.value (v_speed_level type) (λ _. after_speed) first level (level_width type) speed_small

      pub adhesion_there : There s v.next
      adhesion_there = gone_there h refl (q_low_adhesion_rate type) (λ _. after_adhesion) second

      module _ {a : ReadNumber} (da : Reads s v.next a) where
        adhesion : Has (q_low_adhesion_rate type) s v.next a.value a.next a.value
        adhesion = has_same (gone_has h refl (q_low_adhesion_rate type) (λ _. after_adhesion) second da) ((q_low_adhesion_rate type).allowed a.value) refl

        adhesion_small : a.value < 8
        adhesion_small = has_small adhesion (adhesion_lawful type)

        third : Gone s (restriction type) after_adhesion p.from a.next (bits_of 11 ((t.value * 128 + w) * 8 + a.value))
        third = more 8 (t.value * 128 + w) (q_low_adhesion_rate type) (λ _. after_adhesion) second adhesion refl adhesion_small

        pub restriction_small : (t.value < 2) × (w < 128) × (a.value < 8)
        restriction_small = (front_small, speed_small, adhesion_small)

        pub current_there : There s a.next
        current_there = gone_there h refl no_current (λ _ f. f) third

        module _ {c : ReadNumber} (dc : Reads s a.next c) where
          current : Has no_current s a.next c.value c.next 1023
          current =
              let k = gone_has h refl no_current (λ _ f. f) third dc in
              rw (no_limit c.value (lowered no_current c.value) k.lower) at k

          pub restriction_wrote : {after : List ℕ} {r : PacketSpot} → FieldPut room p 21 (t.value * 1048576 + w * 8192 + a.value * 1024 + 1023) c.next after r
              → Wrote (restriction type) s room p after r
          restriction_wrote f =
              let n : ((t.value * 128 + w) * 8 + a.value) * 1024 + 1023 ≡ t.value * 1048576 + w * 8192 + a.value * 1024 + 1023 = omega arith in
              wrote_once (more 11 ((t.value * 128 + w) * 8 + a.value) no_current (λ _ f. f) third current refl (lit< tt)) (rw n) f

-- ---- the whole constraint

module _ {s room mid : List ℕ} {p : PacketSpot} {r : Given} (h : Ready temporary_constraint s room p) (b : Begun temporary_constraint restriction s room p mid r) where
  located : Along temporary_constraint (restriction r.value) s room p mid r.next
  located = record { bits = b.bits; gone = b.left; puts = b.puts }

  pub restriction_ready : Ready (restriction r.value) s mid r.next
  restriction_ready = along_next (restriction r.value) (λ f. f) located h

  pub constraint_wrote : {after : List ℕ} {q : PacketSpot} → Wrote (restriction r.value) s mid r.next after q → Wrote temporary_constraint s room p after q
  constraint_wrote w = along_none (along_on (restriction r.value) (λ f. f) located w)
