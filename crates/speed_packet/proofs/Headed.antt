-- The fields of an accepted packet, from the first to the speed profile.
use mathlib.Core.Path.{◌≡◌, refl, sym, ap, ◌∙◌}
use mathlib.Core.List.{List, ◌∷◌}
use Prim.Native.Nat.{ℕ, ◌+◌, ◌*◌, ◌-◌, ◌/◌, ◌^◌, ◌≤◌, ◌<◌}
use native.Mathlib.Omega.{arith}
use borrow.Author.Tests.{ltb-false, eqb-true}
use lib.Dec.{eqb, ltb, lit≤}
use lib.ListN.{length}
use Rattle.bits.specs.Bits.{field_at}
use Rattle.bits.proofs.Tests.{by_cases}
use Rattle.bits.proofs.Fields.{field_small}
use Rattle.kinds.specs.declared.Item.{Item}
use Rattle.kinds.specs.Kinds.{nid_operational, nid_engine, t_timestamp_date, t_timestamp_seconds, n_packet_counter, nid_c, nid_sp, m_sp_version, l_sp, d_eoa_offset, q_utc_offset, m_sp_altitude}
use Rattle.format.specs.Format.{end, accepted, read, values_of, sheet_numbers}
use Rattle.format.specs.Media.{packet}
use Rattle.format.proofs.Generic.{never}
use Rattle.grammar.specs.segment.Segment.{profile, voltage, current, part, lists, body, fields, wire_changes}
use Rattle.grammar.specs.segment.Frame.{packet_number, body_bits, padding, first_one, field_bits}
use Rattle.grammar.specs.segment.Judgement.{from_packet}
use Rattle.grammar.proofs.segment.Framing.{padded_accepted}
use Rattle.speed.specs.Speed.{segment_length, profile_of}
use Rattle.speed_element.specs.internal.Reading.{Past, HeadRead}
use Rattle.speed_element.proofs.Reading.{past_here, then_past, then_is}
use Rattle.speed_packet.specs.internal.Asking.{AcceptedPacket, numbers_of_packet, Reads}
use Rattle.speed_packet.proofs.Fields.{field_read, field_fits}

module _ (s : List ℕ) where
  -- every field after L_PACKET_ATO
  record Whole (l : List Item) : Type 0 where
    pub values : List Item
    pub reads : Reads s (fields wire_changes) 24 values
    pub all : sheet_numbers l ≡ 6 ∷ sheet_numbers values

  whole : (l : List Item) → from_packet wire_changes s ≡ accepted l → Whole l
  unfolding from_packet
  whole l e =
      let m : ℕ = body_bits s in
      by_cases (ltb (length s) 15) (λ a. absurd (never (rw a at e))) λ a.
      by_cases (eqb (packet_number s) 6) (λ b.
      by_cases (eqb (length s) (15 + (m + 7) / 8)) (λ c.
      padded_accepted 6 (first_one (120 + body_bits s) (padding s)) (read packet (fields wire_changes) 24 (field_bits s)) l (rw (a, b, c) at e) λ v p zero q.
      let long : 15 ≤ length s = ltb-false (length s) 15 a in
      let size : length s ≡ 15 + (m + 7) / 8 = eqb-true (length s) (15 + (m + 7) / 8) c in
      let few : m < 2 ^ 16 = field_small s 8 16 16 (lit≤ tt) in
      let d : 120 + m - 24 ≡ 96 + m = omega arith in
      record {
        values = v;
        reads = record { before = omega arith; inside = omega arith; few = omega arith; long = omega arith; reads = rw d p };
        all = ap sheet_numbers q;
      })
      (λ c. absurd (never (rw (a, b, c) at e))))
      (λ b. absurd (never (rw (a, b) at e)))

  -- what an accepted packet says of L_SP, and the speed profile where it stands
  pub record Headed : Type 0 where
    pub inside : 202 ≤ 8 * length s
    pub long : 8 ≤ length s
    pub length_is : segment_length (numbers_of_packet s) ≡ field_at s 178 24
    pub past : Past (Reads s) (part profile 31 (field_at s 178 24) (part voltage wire_changes (field_at s 178 24) (part current wire_changes (field_at s 178 24) end))) 253 (profile_of (numbers_of_packet s))

  pub headed : AcceptedPacket s → Headed
  unfolding fields body lists
  headed e =
      let w = whole (values_of (from_packet wire_changes s)) e in
      let n : List ℕ = sheet_numbers w.values in
      let p1 = then_past (Reads s) (field_read s nid_operational 24 32 56 refl refl refl) 0 n (past_here (Reads s) w.values w.reads) in
      let p2 = then_past (Reads s) (field_read s nid_engine 56 24 80 refl refl refl) 1 n p1 in
      let p3 = then_past (Reads s) (field_read s t_timestamp_date 80 15 95 refl refl refl) 2 n p2 in
      let p4 = then_past (Reads s) (field_read s t_timestamp_seconds 95 17 112 refl refl refl) 3 n p3 in
      let p5 = then_past (Reads s) (field_read s n_packet_counter 112 8 120 refl refl refl) 4 n p4 in
      let p6 = then_past (Reads s) (field_read s nid_c 120 10 130 refl refl refl) 5 n p5 in
      let p7 = then_past (Reads s) (field_read s nid_sp 130 32 162 refl refl refl) 6 n p6 in
      let p8 = then_past (Reads s) (field_read s m_sp_version 162 8 170 refl refl refl) 7 n p7 in
      let p9 = then_past (Reads s) (field_read s m_sp_version 170 8 178 refl refl refl) 8 n p8 in
      let length_read = field_read s l_sp 178 24 202 refl refl refl in
      let p10 = then_past (Reads s) length_read 9 n p9 in
      let p11 = then_past (Reads s) (field_read s d_eoa_offset 202 24 226 refl refl refl) 10 n p10 in
      let p12 = then_past (Reads s) (field_read s q_utc_offset 226 7 233 refl refl refl) 11 n p11 in
      let p13 = then_past (Reads s) (field_read s m_sp_altitude 233 20 253 refl refl refl) 12 n p12 in
      let here = (field_fits s l_sp p9.reads).whole in
      record {
        inside = omega (arith, here, p9.reads.inside, p9.reads.before);
        long = p9.reads.long;
        length_is = ap segment_length w.all ∙ then_is (Reads s) length_read 9 n p9;
        past = record { values = p13.values; reads = p13.reads; numbers = p13.numbers ∙ ap profile_of (sym w.all) };
      }

  pub head_read : AcceptedPacket s → {lsp : ℕ} → lsp ≡ field_at s 178 24 → lsp < 16777216 → HeadRead (Reads s) (numbers_of_packet s) lsp 253
  head_read e d small = let h = headed e in record { length_is = d ∙ sym h.length_is; small = small; past = rw d h.past }
