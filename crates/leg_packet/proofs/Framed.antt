-- The fields of an accepted packet from the first on, of a segment and of a journey.
use mathlib.Core.Path.{◌≡◌, refl, sym, ap, ◌∙◌}
use mathlib.Core.List.{List, [], ◌∷◌}
use Prim.Native.Nat.{ℕ, ◌+◌, ◌*◌, ◌-◌, ◌/◌, ◌%◌, ◌^◌, ◌≤◌, ◌<◌}
use native.Mathlib.Omega.{arith}
use borrow.Author.Tests.{ltb-false, eqb-true}
use lib.Dec.{eqb, ltb, lit≤}
use lib.ListN.{length, drop, get_or}
use Rattle.bits.specs.Bits.{field_at}
use Rattle.bits.proofs.Tests.{by_cases}
use Rattle.bits.proofs.Fields.{field_small}
use Rattle.bits.proofs.Windows.{parts_at, part}
use Rattle.kinds.specs.declared.Item.{Item}
use Rattle.kinds.specs.Kinds.{nid_operational, nid_engine, t_timestamp_date, t_timestamp_seconds, n_packet_counter, nid_c, nid_sp, m_sp_version}
use Rattle.kinds.specs.journey.Kinds.{q_jp_status, n_iter_sp}
use Rattle.format.specs.Format.{Format, end, times, accepted, read, values_of, sheet_numbers}
use Rattle.format.specs.Media.{packet}
use Rattle.format.proofs.Generic.{never}
use Rattle.grammar.specs.segment.Segment.{header, lists, body, fields, wire_changes}
use Rattle.grammar.specs.segment.Frame.{packet_number, body_bits, padding, first_one, field_bits, unframed}
use Rattle.grammar.specs.segment.Judgement.{from_packet}
use Rattle.grammar.specs.declared.link.Tree.TheVariants.{Journey}
use Rattle.grammar.specs.internal.link.Trees.{tree_packet}
use Rattle.grammar.specs.journey.Journey.{journey_segment, journey_body, constraints}
use Rattle.grammar.proofs.segment.Framing.{padded_accepted}
use Rattle.speed_element.specs.internal.Reading.{Past}
use Rattle.speed_element.proofs.Reading.{past_here, then_past, then_is}
use Rattle.speed_packet.specs.internal.Asking.{AcceptedPacket, numbers_of_packet, Reads}
use Rattle.speed_packet.proofs.Fields.{field_read, field_fits}
use Rattle.leg_parts.specs.internal.Reading.{IdentityRead, LegsRead}
use Rattle.leg_packet.specs.internal.Asking.{AcceptedJourney, numbers_of_journey}

module _ (s : List ℕ) where
  -- every field after L_PACKET_ATO, of a packet with the number n and the fields f
  record Whole (n : ℕ) (f : Format) (l : List Item) : Type 0 where
    pub values : List Item
    pub reads : Reads s f 24 values
    pub all : sheet_numbers l ≡ n ∷ sheet_numbers values

  whole : (n : ℕ) (f : Format) (l : List Item) → unframed n f s ≡ accepted l → Whole n f l
  whole n f l e =
      let m : ℕ = body_bits s in
      by_cases (ltb (length s) 15) (λ a. absurd (never (rw a at e))) λ a.
      by_cases (eqb (packet_number s) n) (λ b.
      by_cases (eqb (length s) (15 + (m + 7) / 8)) (λ c.
      padded_accepted n (first_one (120 + body_bits s) (padding s)) (read packet f 24 (field_bits s)) l (rw (a, b, c) at e) λ v p zero q.
      let long : 15 ≤ length s = ltb-false (length s) 15 a in
      let size : length s ≡ 15 + (m + 7) / 8 = eqb-true (length s) (15 + (m + 7) / 8) c in
      let few : m < 2 ^ 16 = field_small s 8 16 16 (lit≤ tt) in
      let d : 120 + m - 24 ≡ 96 + m = omega arith in
      record {
        values = v;
        reads = record { before = omega arith; inside = omega arith; few = omega arith; long = omega arith; reads = rw d p };
        all = ap sheet_numbers q;
      })
      (λ c. absurd (never (rw (a, b, c) at e))))
      (λ b. absurd (never (rw (a, b) at e)))

  -- the body, after the header's five fields
  header_past : {f : Format} {l : List Item} → Reads s (header f) 24 l → Past (Reads s) f 120 (drop 5 (sheet_numbers l))
  header_past {f} {l} h =
      let n = sheet_numbers l in
      let p1 = then_past (Reads s) (field_read s nid_operational 24 32 56 refl refl refl) 0 n (past_here (Reads s) l h) in
      let p2 = then_past (Reads s) (field_read s nid_engine 56 24 80 refl refl refl) 1 n p1 in
      let p3 = then_past (Reads s) (field_read s t_timestamp_date 80 15 95 refl refl refl) 2 n p2 in
      let p4 = then_past (Reads s) (field_read s t_timestamp_seconds 95 17 112 refl refl refl) 3 n p3 in
      then_past (Reads s) (field_read s n_packet_counter 112 8 120 refl refl refl) 4 n p4

  -- ---- a segment's identity

  module _ (e : AcceptedPacket s) where
    -- the place is there, and the identity as it is read
    pub record Identified : Type 0 where
      pub inside : 178 ≤ 8 * length s
      pub long : 8 ≤ length s
      pub country : field_at s 120 10 ≡ get_or (numbers_of_packet s) 6 0
      pub number : field_at s 130 32 ≡ get_or (numbers_of_packet s) 7 0
      pub first : field_at s 162 8 ≡ get_or (numbers_of_packet s) 8 0
      pub second : field_at s 170 8 ≡ get_or (numbers_of_packet s) 9 0

    pub identified : Identified
    unfolding from_packet fields body lists
    identified =
        let w = whole 6 (fields wire_changes) (values_of (from_packet wire_changes s)) e in
        let n : List ℕ = sheet_numbers w.values in
        let p5 = header_past w.reads in
        let country = field_read s nid_c 120 10 130 refl refl refl in
        let p6 = then_past (Reads s) country 5 n p5 in
        let number = field_read s nid_sp 130 32 162 refl refl refl in
        let p7 = then_past (Reads s) number 6 n p6 in
        let first = field_read s m_sp_version 162 8 170 refl refl refl in
        let p8 = then_past (Reads s) first 7 n p7 in
        let second = field_read s m_sp_version 170 8 178 refl refl refl in
        let here = (field_fits s m_sp_version p8.reads).whole in
        record {
          inside = omega (arith, here, p8.reads.inside, p8.reads.before);
          long = p8.reads.long;
          country = sym (then_is (Reads s) country 5 n p5) ∙ ap (λ (z : List ℕ). get_or z 6 0) (sym w.all);
          number = sym (then_is (Reads s) number 6 n p6) ∙ ap (λ (z : List ℕ). get_or z 7 0) (sym w.all);
          first = sym (then_is (Reads s) first 7 n p7) ∙ ap (λ (z : List ℕ). get_or z 8 0) (sym w.all);
          second = sym (then_is (Reads s) second 8 n p8) ∙ ap (λ (z : List ℕ). get_or z 9 0) (sym w.all);
        }

    pub identity_read : {c n t : ℕ} → c ≡ field_at s 120 10 → n ≡ field_at s 130 32 → t ≡ field_at s 162 16
        → IdentityRead (numbers_of_packet s) (record { nid_c = c; nid_sp = n; major = t / 256; minor = t % 256 })
    identity_read {t = t} a b d =
        let h = identified in
        let v = parts_at s 162 (8 ∷ 8 ∷ []) d h.inside in
        let f : t / 256 ≡ field_at s 162 8 = part v 0 in
        let g : t % 256 ≡ field_at s 170 8 = part v 1 in
        record { country = a ∙ h.country; number = b ∙ h.number; first = f ∙ h.first; second = g ∙ h.second }

  -- ---- a journey's segments

  module _ (e : AcceptedJourney s) where
    pub record Counted : Type 0 where
      pub inside : 131 ≤ 8 * length s
      pub long : 8 ≤ length s
      pub count : field_at s 123 8 ≡ get_or (numbers_of_journey s) 7 0
      pub past : Past (Reads s) (times (journey_segment constraints) (field_at s 123 8) end) 131 (drop 8 (numbers_of_journey s))

    pub counted : Counted
    unfolding journey_body
    counted =
        let w = whole 4 (header (journey_body constraints)) (values_of (tree_packet Journey s)) e in
        let n : List ℕ = sheet_numbers w.values in
        let p6 = then_past (Reads s) (field_read s q_jp_status 120 3 123 refl refl refl) 5 n (header_past w.reads) in
        let number = field_read s n_iter_sp 123 8 131 refl refl refl in
        let p7 = then_past (Reads s) number 6 n p6 in
        record {
          inside = omega (arith, p7.reads.inside, p7.reads.before);
          long = p7.reads.long;
          count = sym (then_is (Reads s) number 6 n p6) ∙ ap (λ (z : List ℕ). get_or z 7 0) (sym w.all);
          past = record { values = p7.values; reads = p7.reads; numbers = p7.numbers ∙ ap (drop 8) (sym w.all) };
        }

    pub legs_read : {t : ℕ} → t ≡ field_at s 120 11 → LegsRead (Reads s) (numbers_of_journey s) (record { count = t % 256; first = 131 })
    legs_read {t} d =
        let h = counted in
        let f : t % 256 ≡ field_at s 123 8 = part (parts_at s 120 (3 ∷ 8 ∷ []) d h.inside) 1 in
        record { count_is = f ∙ h.count; few = omega arith; past = rw f h.past }
