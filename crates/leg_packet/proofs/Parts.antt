-- A segment of an accepted journey packet, its timing points and its constraints, by their widths.
use mathlib.Core.Path.{◌≡◌, refl, sym, ◌∙◌}
use mathlib.Core.Bool.{true}
use mathlib.Core.List.{List, [], ◌∷◌}
use Prim.Native.Nat.{ℕ, zero, suc, ◌+◌, ◌*◌, ◌/◌, ◌%◌, ◌≤◌}
use native.Mathlib.Nat.{suc-mul}
use native.Mathlib.Omega.{arith}
use borrow.Author.Tests.{leb-true}
use lib.Dec.{leb, lit≤}
use lib.ListN.{length, drop}
use Rattle.bits.specs.Bits.{field_at}
use Rattle.bits.proofs.Tests.{and_right}
use Rattle.bits.proofs.Fields.{field_small}
use Rattle.bits.proofs.Windows.{parts_at, part}
use Rattle.kinds.specs.declared.Item.{Item}
use Rattle.kinds.specs.Kind.{Kind}
use Rattle.kinds.specs.Kinds.{nid_c, nid_sp, m_sp_version, n_iter, no_current}
use Rattle.kinds.specs.journey.Kinds as kinds
use Rattle.format.specs.Format.{Format, field, times, sheet_numbers}
use Rattle.grammar.specs.journey.Journey.{timing_point, temporary_constraint, journey_segment, constraints}
use Rattle.grammar.specs.internal.journey.Parts.{constraint_list}
use Rattle.grammar.proofs.journey.Tree.{by_range, by_type, end_width, level_width}
use Rattle.speed_element.specs.internal.Reading.{Readable, Past, Passes, FieldRead}
use Rattle.speed_element.proofs.Reading.{past_here, then_past}
use Rattle.speed_packet.specs.internal.Asking.{end_of, Reads}
use Rattle.speed_packet.proofs.Fields.{field_read, field_fits}
use Rattle.legs.specs.Legs.{after_constraints, after_points}
use Rattle.leg_parts.specs.internal.Reading.{LegRead, ConstraintRead}
use Rattle.leg_parts.proofs.Reading.{times_end, times_pass, constraint_read, leg_read}

-- ---- the kinds that depend on the range or the type

end_same : (range start v : ℕ) → (kinds.d_tc_end_location range start).raise v ≡ v
end_same range start v = by_range (λ k. k.raise v ≡ v) range start refl refl

unused : (v : ℕ) → v ≤ 0 → v ≡ v * 5
unused v h = omega arith

level_raised : (type v : ℕ) → (kinds.v_speed_level type).allowed v ≡ true → (kinds.v_speed_level type).raise v ≡ v * 5
level_raised type v = by_type (λ k. k.allowed v ≡ true → k.raise v ≡ v * 5) type (λ e. refl) (λ e. unused v (leb-true v 0 (and_right (leb 0 v) (leb v 0) e)))

module _ (s : List ℕ) where
  -- ---- timing points

  module _ {f : Format} {at : ℕ} (l : List Item) (h : Reads s (timing_point f) at l) where
    -- a field of w bits after m bits and n numbers
    on : (m n : ℕ) (k : Kind) (w : ℕ) → k.width ≡ w → {next : ℕ → Format} → Past (Reads s) (field k next) (at + m) (drop n (sheet_numbers l))
        → Past (Reads s) (next (field_at s (at + m) w)) (at + (m + w)) (drop (n + 1) (sheet_numbers l))
    on m n k w e p = then_past (Reads s) (field_read s k (at + m) w (at + (m + w)) e (omega arith) refl) n (sheet_numbers l) p

    point_past : Past (Reads s) f (at + 129) (drop 16 (sheet_numbers l))
    point_past =
        let stop = field_at s (at + 76) 2 in
        let p1 = then_past (Reads s) (field_read s kinds.nid_tp at 32 (at + 32) refl refl refl) 0 (sheet_numbers l) (past_here (Reads s) l h) in
        let p4 = on 64 3 kinds.t_arrival_window 10 refl (on 47 2 kinds.t_latest_arrival_seconds 17 refl (on 32 1 kinds.t_latest_arrival_date 15 refl p1)) in
        let p6 = on 76 5 kinds.q_stop_skip_passes 2 refl (on 74 4 kinds.q_tp_alignment 2 refl p4) in
        let p8 = on 80 7 kinds.q_day_light_saving 1 refl (on 78 6 kinds.q_tp_information 2 refl p6) in
        let p10 = on 83 9 (kinds.q_centralised_opening stop) 1 refl (on 81 8 (kinds.q_opening_door_side stop) 2 refl p8) in
        let p12 = on 85 11 (kinds.q_train_hold stop) 1 refl (on 84 10 (kinds.q_relaxed_coupler stop) 1 refl p10) in
        let p14 = on 101 13 (kinds.t_departure_seconds stop) 17 refl (on 86 12 (kinds.t_departure_date stop) 15 refl p12) in
        on 128 15 (kinds.q_automatic_closing stop) 1 refl (on 118 14 (kinds.t_minimum_dwell_time stop) 10 refl p14)

  -- the place after n parts of w bits
  parts_bits : (w n at : ℕ) → times_end (λ m. m + w) n at ≡ at + n * w
  parts_bits w zero at = omega arith
  parts_bits w (suc n) at = parts_bits w n (at + w) ∙ omega (arith, suc-mul n w)

  pub points_passed : (n at to : ℕ) → to ≡ at + n * 129 → Passes (Reads s) (times timing_point n) (after_points n) at to
  points_passed n at to e =
      rw (e ∙ sym (parts_bits 129 n at))
      (times_pass (Reads s) (λ m. m + 129) (λ m. record { past = λ f l h. point_past l h }) after_points (λ z. refl) (λ n z. refl) n at)

  -- ---- a constraint

  module _ (at : ℕ) where
    abbrev type : ℕ
    type = field_at s at 2

    abbrev range : ℕ
    range = field_at s (at + 2) 2

    abbrev start : ℕ
    start = field_at s (at + 2 + 2) 24

    abbrev end : ℕ
    end = field_at s (at + 28) 24

    abbrev level : ℕ
    level = field_at s (at + 52 + 1) 7

    -- V_Speed_Level, whose number is 5 times the value, also where it is not used
    level_read : FieldRead (Reads s) (kinds.v_speed_level type) (at + 52 + 1) (at + 52 + 1 + 7) level (level * 5)
    level_read =
        let k = kinds.v_speed_level type in
        let r = field_read s k (at + 52 + 1) 7 (at + 52 + 1 + 7) (level_width type) refl refl in
        let w = level_width type in
        record {
          past = r.past;
          is = λ next l h. r.is next l h ∙ level_raised type level (rw w at (field_fits s k h).allowed);
        }

    end_read : FieldRead (Reads s) (kinds.d_tc_end_location range start) (at + 28) (at + 52) end end
    end_read = rw (end_same range start end) at (field_read s (kinds.d_tc_end_location range start) (at + 28) 24 (at + 52) (end_width range start) (omega arith) refl)

    pub constraint_at : ConstraintRead (Reads s) at
        (record { of = type; range = range; start = start; end = end; q_front = field_at s (at + 52) 1; speed = level * 5; next = at + 73 })
    constraint_at =
        constraint_read (Reads s) (field_read s kinds.q_tc_type at 2 (at + 2) refl refl refl) (field_read s kinds.q_tc_range (at + 2) 2 (at + 2 + 2) refl refl refl)
        (field_read s (kinds.d_tc_start_location range) (at + 2 + 2) 24 (at + 28) refl (omega arith) refl) end_read
        (field_read s (kinds.q_tc_front type) (at + 52) 1 (at + 52 + 1) refl refl refl) level_read
        (field_read s (kinds.q_low_adhesion_rate type) (at + 52 + 1 + 7) 3 (at + 52 + 1 + 7 + 3) refl refl refl)
        (field_read s no_current (at + 52 + 1 + 7 + 3) 10 (at + 73) refl (omega arith) refl)

    -- by the windows that are read at once
    pub constraint_windows : {t e u v : ℕ} → at + 73 ≤ 8 * length s → t ≡ field_at s at 28 → e ≡ field_at s (at + 28) 24 → u ≡ field_at s (at + 52) 21 → v ≡ u / 8192 % 128 * 5
        → ConstraintRead (Reads s) at
        (record { of = t / 67108864; range = t / 16777216 % 4; start = t % 16777216; end = e; q_front = u / 1048576; speed = v; next = at + 73 })
    constraint_windows {t} {e} {u} {v} inside a b c d =
        let x = parts_at s at (2 ∷ 2 ∷ 24 ∷ []) a (omega arith) in
        let y = parts_at s (at + 52) (1 ∷ 7 ∷ 3 ∷ 10 ∷ []) c (omega arith) in
        let x1 : t / 67108864 ≡ type = part x 0 in
        let x2 : t / 16777216 % 4 ≡ range = part x 1 in
        let x3 : t % 16777216 ≡ start = part x 2 in
        let y1 : u / 1048576 ≡ field_at s (at + 52) 1 = part y 0 in
        let y2 : u / 8192 % 128 ≡ level = part y 1 in
        rw (x1, x2, x3, b, y1, d, y2) constraint_at

  pub constraints_passed : (n at to : ℕ) → to ≡ at + n * 73 → Passes (Reads s) (times temporary_constraint n) (after_constraints n) at to
  constraints_passed n at to e =
      rw (e ∙ sym (parts_bits 73 n at)) (times_pass (Reads s) (λ m. m + 73) (λ m. (constraint_at m).passes) after_constraints (λ z. refl) (λ n z. refl) n at)

  -- a constraint that is readable is there whole
  pub constraint_inside : {at : ℕ} → Readable (Reads s) temporary_constraint at → at + 73 ≤ end_of s
  constraint_inside {at} h = ((constraint_at at).passes.past h.follows h.values h.reads).reads.before

  -- ---- the head of a segment

  module _ {at : ℕ} (h : Readable (Reads s) (journey_segment constraints) at) where
    head_past : Past (Reads s) (times timing_point (field_at s (at + 59) 5) (constraint_list constraints h.follows)) (at + 64) (drop 6 (sheet_numbers h.values))
    head_past =
        let ns = sheet_numbers h.values in
        let p1 = then_past (Reads s) (field_read s nid_c at 10 (at + 10) refl refl refl) 0 ns (past_here (Reads s) h.values h.reads) in
        let p2 = then_past (Reads s) (field_read s nid_sp (at + 10) 32 (at + 42) refl (omega arith) refl) 1 ns p1 in
        let p3 = then_past (Reads s) (field_read s m_sp_version (at + 42) 8 (at + 50) refl (omega arith) refl) 2 ns p2 in
        let p4 = then_past (Reads s) (field_read s m_sp_version (at + 50) 8 (at + 58) refl (omega arith) refl) 3 ns p3 in
        let p5 = then_past (Reads s) (field_read s kinds.q_sp_dir (at + 58) 1 (at + 59) refl (omega arith) refl) 4 ns p4 in
        then_past (Reads s) (field_read s (n_iter 31) (at + 59) 5 (at + 64) refl (omega arith) refl) 5 ns p5

    pub head_inside : at + 64 ≤ end_of s
    head_inside = head_past.reads.before

    pub head_points : {t : ℕ} → t ≡ field_at s (at + 42) 22 → t % 32 ≡ field_at s (at + 59) 5
    head_points {t} e =
        let v = parts_at s (at + 42) (8 ∷ 8 ∷ 1 ∷ 5 ∷ []) e (omega (arith, head_inside, h.reads.inside)) in
        let z : at + 42 + 8 + 8 + 1 ≡ at + 59 = omega arith in
        let f : t % 32 ≡ field_at s (at + 42 + 8 + 8 + 1) 5 = part v 3 in
        rw z at f

    -- after the timing points, the count of constraints is there
    pub count_inside : {n to : ℕ} → n ≡ field_at s (at + 59) 5 → to ≡ at + 64 + n * 129 → to + 5 ≤ end_of s
    count_inside {n} {to} d e =
        let p = head_past in
        let q = (points_passed n (at + 64) to e).past (constraint_list constraints h.follows) p.values (rw (sym d) at p.reads) in
        omega (arith, (field_fits s (n_iter constraints) q.reads).whole, q.reads.before)

    pub leg_windows : {c i t m to : ℕ} → c ≡ field_at s at 10 → i ≡ field_at s (at + 10) 32 → t ≡ field_at s (at + 42) 22 → to ≡ at + 64 + t % 32 * 129 → m ≡ field_at s to 5
        → LegRead (Reads s) at
        (record {
          identity = record { nid_c = c; nid_sp = i; major = t / 16384; minor = t / 64 % 256 };
          direction = t / 32 % 2;
          count = m;
          constraints = to + 5;
        })
    leg_windows {t = t} {m = m} {to = to} a b d e g =
        let v = parts_at s (at + 42) (8 ∷ 8 ∷ 1 ∷ 5 ∷ []) d (omega (arith, head_inside, h.reads.inside)) in
        leg_read (Reads s) (field_read s nid_c at 10 (at + 10) refl refl a) (field_read s nid_sp (at + 10) 32 (at + 42) refl (omega arith) b)
        (field_read s m_sp_version (at + 42) 8 (at + 42 + 8) refl refl (part v 0)) (field_read s m_sp_version (at + 42 + 8) 8 (at + 42 + 8 + 8) refl refl (part v 1))
        (field_read s kinds.q_sp_dir (at + 42 + 8 + 8) 1 (at + 42 + 8 + 8 + 1) refl refl (part v 2))
        (field_read s (n_iter 31) (at + 42 + 8 + 8 + 1) 5 (at + 64) refl (omega arith) (part v 3)) (points_passed (t % 32) (at + 64) to e)
        (field_read s (n_iter constraints) to 5 (to + 5) refl refl g) (omega (arith, g, field_small s to 5 5 (lit≤ tt)))
