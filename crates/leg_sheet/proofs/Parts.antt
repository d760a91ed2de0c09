-- A segment's identity, and a journey's segments and constraints, from the numbers that the code reads.
use mathlib.Core.Path.{◌≡◌, refl, sym, ap, ◌∙◌}
use mathlib.Core.Bool.{Bool, true, false, ◌&&◌}
use mathlib.Core.List.{List}
use mathlib.Core.Option.{some}
use Prim.Native.Nat.{ℕ, ◌*◌, ◌/◌, ◌%◌, ◌≤◌}
use native.Mathlib.Omega.{arith}
use borrow.Author.Tests.{leb-true}
use lib.Dec.{leb, lit<}
use lib.ListN.{length, drop}
use Rattle.bits.specs.Bits.{Bytes}
use Rattle.bits.proofs.Tests.{and_left, and_right}
use Rattle.numbers.specs.Numbers.{groups_in}
use Rattle.kinds.specs.Kind.{when}
use Rattle.kinds.specs.Kinds.{nid_c, nid_sp, m_sp_version, n_iter, no_current}
use Rattle.kinds.specs.journey.Kinds as kinds
use Rattle.fields.proofs.Lawful.{LawfulKind, narrow, up_to_lawful}
use Rattle.format.specs.Format.{Format, end, field, then, times, values_of, sheet_numbers}
use Rattle.grammar.specs.segment.Segment.{header}
use Rattle.grammar.specs.declared.link.Tree.TheVariants.{Journey}
use Rattle.grammar.specs.internal.link.Trees.{tree_number_kind, tree_sheet}
use Rattle.grammar.specs.journey.Journey.{timing_point, temporary_constraint, journey_segment, journey_body, constraints}
use Rattle.grammar.specs.internal.journey.Parts.{constraint_list}
use Rattle.speed_element.specs.internal.Reading.{Readable, Past}
use Rattle.speed_element.proofs.Reading.{past_here, then_past, then_is}
use Rattle.speed_sheet.specs.internal.Asking.{AcceptedSheet, numbers_of_sheet, counted_at, number_end, NumberAt, numbers_end, Numbers, Reads}
use Rattle.speed_sheet.proofs.Numbers.{value_or, field_any, known}
use Rattle.speed_sheet.proofs.Parts.{count_lawful, same_read, number_most, head_numbers, head_values}
use Rattle.leg_parts.specs.internal.Reading.{IdentityRead, LegsRead, LegRead, ConstraintRead}
use Rattle.leg_parts.proofs.Reading.{constraint_read, leg_read}
use Rattle.leg_sheet.specs.internal.Asking.{AcceptedJourney, numbers_of_journey}
use Rattle.leg_sheet.proofs.Walking.{Walked, walk_start, walk_field, point_walk, parts_numbers, points_passed}

legs_lawful : LawfulKind kinds.n_iter_sp
legs_lawful = up_to_lawful 8 255 (narrow tt) (lit< tt)

module _ (s : List ℕ) where
  -- ---- a segment's identity

  module _ (e : AcceptedSheet s) (ok : Bytes s) where
    pub identity_numbers : Numbers s 1 5
    identity_numbers = let h = head_numbers s e ok in record { ok = ok; here = λ i m. h.here i (omega arith) }

    pub identity_read : {at a b c d w x y z : ℕ} → at ≡ numbers_end s 1 5 → NumberAt s at a w → NumberAt s a b x → NumberAt s b c y → NumberAt s c d z
        → IdentityRead (numbers_of_sheet s) (record { nid_c = w; nid_sp = x; major = y; minor = z })
    identity_read {at} {a} {b} {c} p n1 n2 n3 n4 =
        let v = head_values s e ok in
        let second : a ≡ numbers_end s 1 6 = n1.next ∙ ap (number_end s) p in
        let third : b ≡ numbers_end s 1 7 = n2.next ∙ ap (number_end s) second in
        let fourth : c ≡ numbers_end s 1 8 = n3.next ∙ ap (number_end s) third in
        record {
          country = n1.value ∙ ap (λ (i : ℕ). counted_at s i % 4294967296) p ∙ sym (v 5 (lit< tt));
          number = n2.value ∙ ap (λ (i : ℕ). counted_at s i % 4294967296) second ∙ sym (v 6 (lit< tt));
          first = n3.value ∙ ap (λ (i : ℕ). counted_at s i % 4294967296) third ∙ sym (v 7 (lit< tt));
          second = n4.value ∙ ap (λ (i : ℕ). counted_at s i % 4294967296) fourth ∙ sym (v 8 (lit< tt));
        }

  -- ---- a journey's segments

  -- the first number is the packet number, one byte
  number_first : {a v : ℕ} → (tree_number_kind Journey).lower a ≡ some v → a ≡ 4
  number_first {a} {v} e = go (leb 4 a && leb a 4) refl e
    where
      go : (b : Bool) → (leb 4 a && leb a 4) ≡ b → when b a ≡ some v → a ≡ 4
      go true d p = omega (arith, leb-true 4 a (and_left (leb 4 a) (leb a 4) d), leb-true a 4 (and_right (leb 4 a) (leb a 4) d))
      go false d p = absurd (let z : ◌≡◌ {A = ℕ} 0 1 = cc in omega arith)

  one_group : length (groups_in 4) ≡ 1
  unfolding groups_in
  one_group = refl

  module _ (e : AcceptedJourney s) (ok : Bytes s) where
    all_reads : Reads s (then (tree_number_kind Journey) (header (journey_body constraints))) 0 (values_of (tree_sheet Journey s))
    all_reads = record { before = omega arith; ok = ok; reads = e }

    first_past : Past (Reads s) (header (journey_body constraints)) 1 (drop 1 (numbers_of_journey s))
    first_past =
        let w = known s (tree_number_kind Journey) all_reads in
        let g : counted_at s 0 / 4294967296 ≡ 1 = w.groups ∙ ap (λ (a : ℕ). length (groups_in a)) (number_first w.lowers) ∙ one_group in
        then_past (Reads s) (field_any s (tree_number_kind Journey) (record { next = omega arith; value = refl })) 0 (numbers_of_journey s) (past_here (Reads s) (values_of (tree_sheet Journey s)) all_reads)

    head_walk : Walked s 1 1 (numbers_of_journey s) 6 (field kinds.n_iter_sp λ n. times (journey_segment constraints) n end)
    unfolding journey_body
    head_walk =
        let w3 = walk_field s (walk_field s (walk_field s (walk_start s first_past))) in
        walk_field s (walk_field s (walk_field s w3))

    pub count_numbers : Numbers s 1 6
    count_numbers = record { ok = ok; here = head_walk.here }

    pub legs_read : {at to n : ℕ} → at ≡ numbers_end s 1 6 → NumberAt s at to n → LegsRead (Reads s) (numbers_of_journey s) (record { count = n; first = to })
    legs_read {at} {to} {n} p x =
        let after : ℕ → Format → Format = λ u f. times (journey_segment constraints) u f in
        let w : Past (Reads s) (field kinds.n_iter_sp λ u. after u end) at (drop 7 (numbers_of_journey s)) = rw p head_walk.past in
        let r = same_read s x kinds.n_iter_sp (λ u. refl) in
        record {
          count_is = sym (then_is (Reads s) r 7 (numbers_of_journey s) w);
          few = number_most s x legs_lawful after (record { follows = end; values = w.values; reads = w.reads });
          past = then_past (Reads s) r 7 (numbers_of_journey s) w;
        }

  -- ---- the head of a segment

  module _ {at a b c d e g n1 n2 n3 n4 n5 n : ℕ} (x1 : NumberAt s at a n1) (x2 : NumberAt s a b n2) (x3 : NumberAt s b c n3) (x4 : NumberAt s c d n4) (x5 : NumberAt s d e n5)
      (x6 : NumberAt s e g n) (h : Readable (Reads s) (journey_segment constraints) at) where
    points_count : Past (Reads s) (field (n_iter 31) λ u. times timing_point u (constraint_list constraints h.follows)) e (drop 5 (sheet_numbers h.values))
    points_count =
        let ns = sheet_numbers h.values in
        let p1 = then_past (Reads s) (same_read s x1 nid_c (λ u. refl)) 0 ns (past_here (Reads s) h.values h.reads) in
        let p2 = then_past (Reads s) (same_read s x2 nid_sp (λ u. refl)) 1 ns p1 in
        let p3 = then_past (Reads s) (same_read s x3 m_sp_version (λ u. refl)) 2 ns p2 in
        let p4 = then_past (Reads s) (same_read s x4 m_sp_version (λ u. refl)) 3 ns p3 in
        then_past (Reads s) (same_read s x5 kinds.q_sp_dir (λ u. refl)) 4 ns p4

    pub points_few : n ≤ 31
    points_few =
        let p = points_count in
        number_most s x6 count_lawful (λ u f. times timing_point u (constraint_list constraints f)) (record { follows = h.follows; values = p.values; reads = p.reads })

    points_past : Past (Reads s) (times timing_point n (constraint_list constraints h.follows)) g (drop 6 (sheet_numbers h.values))
    points_past = then_past (Reads s) (same_read s x6 (n_iter 31) (λ u. refl)) 5 (sheet_numbers h.values) points_count

    pub points_numbers : Numbers s g (16 * n)
    points_numbers = parts_numbers s 16 (point_walk s) n (constraint_list constraints h.follows) points_past.values points_past.reads (16 * n) (omega arith)

    pub leg_here : {i to m : ℕ} → i ≡ numbers_end s g (16 * n) → NumberAt s i to m
        → LegRead (Reads s) at
        (record { identity = record { nid_c = n1; nid_sp = n2; major = n3; minor = n4 }; direction = n5; count = m; constraints = to })
    leg_here {i} {to} {m} q x7 =
        let points = points_passed s n g (16 * n) i (omega arith) q in
        let p = points.past (constraint_list constraints h.follows) points_past.values points_past.reads in
        let few = number_most s x7 count_lawful (λ u f. times temporary_constraint u f) (record { follows = h.follows; values = p.values; reads = p.reads }) in
        leg_read (Reads s) (same_read s x1 nid_c (λ u. refl)) (same_read s x2 nid_sp (λ u. refl)) (same_read s x3 m_sp_version (λ u. refl)) (same_read s x4 m_sp_version (λ u. refl))
        (same_read s x5 kinds.q_sp_dir (λ u. refl)) (same_read s x6 (n_iter 31) (λ u. refl)) points (same_read s x7 (n_iter constraints) (λ u. refl)) few

  -- ---- a constraint

  module _ {at a b c d e g n1 n2 n3 n4 n5 n6 : ℕ} (x1 : NumberAt s at a n1) (x2 : NumberAt s a b n2) (x3 : NumberAt s b c n3) (x4 : NumberAt s c d n4) (x5 : NumberAt s d e n5)
      (x6 : NumberAt s e g n6) where
    -- the values on which what follows depends
    abbrev type : ℕ
    type = value_or ((kinds.q_tc_type).lower n1)

    abbrev range : ℕ
    range = value_or ((kinds.q_tc_range).lower n2)

    abbrev start : ℕ
    start = value_or ((kinds.d_tc_start_location range).lower n3)

    pub constraint_here : {to : ℕ} → to ≡ numbers_end s g 2
        → ConstraintRead (Reads s) at (record { of = n1; range = n2; start = n3; end = n4; q_front = n5; speed = n6; next = to })
    constraint_here q =
        rw q
        (constraint_read (Reads s) (field_any s kinds.q_tc_type x1) (field_any s kinds.q_tc_range x2) (field_any s (kinds.d_tc_start_location range) x3)
        (field_any s (kinds.d_tc_end_location range start) x4) (field_any s (kinds.q_tc_front type) x5) (field_any s (kinds.v_speed_level type) x6)
        (field_any s (kinds.q_low_adhesion_rate type) (record { next = refl; value = refl })) (field_any s no_current (record { next = refl; value = refl })))

    pub adhesion_numbers : Readable (Reads s) temporary_constraint at → Numbers s g 2
    adhesion_numbers h =
        let ns = sheet_numbers h.values in
        let p1 = then_past (Reads s) (field_any s kinds.q_tc_type x1) 0 ns (past_here (Reads s) h.values h.reads) in
        let p2 = then_past (Reads s) (field_any s kinds.q_tc_range x2) 1 ns p1 in
        let p3 = then_past (Reads s) (field_any s (kinds.d_tc_start_location range) x3) 2 ns p2 in
        let p4 = then_past (Reads s) (field_any s (kinds.d_tc_end_location range start) x4) 3 ns p3 in
        let p5 = then_past (Reads s) (field_any s (kinds.q_tc_front type) x5) 4 ns p4 in
        let p6 = then_past (Reads s) (field_any s (kinds.v_speed_level type) x6) 5 ns p5 in
        let w : Walked s g 6 ns 2 h.follows = walk_field s (walk_field s (walk_start s p6)) in
        record { ok = h.reads.ok; here = w.here }
