-- The journey's tree, measured once for any costs of its kinds; so its kinds are lawful, and its size is known in any medium.
use mathlib.Core.Path.{◌≡◌, refl}
use mathlib.Core.Bool.{Bool, true, false, ◌||◌}
use Prim.Native.Nat.{ℕ, zero, suc, ◌+◌, ◌*◌, ◌-◌, ◌^◌, ◌≤◌, ◌<◌}
use native.Mathlib.Nat.{le_refl, le_trans, mul-le-mul_right}
use native.Mathlib.Omega.{arith}
use borrow.Author.Tests.{leb-true}
use lib.Dec.{eqb, leb, lit<, lit≤}
use lib.ListN.{length}
use Rattle.bits.proofs.Tests.{and_right, by_cases}
use Rattle.numbers.specs.Numbers.{groups_in}
use Rattle.numbers.proofs.Counting.{count_most}
use Rattle.kinds.specs.Kind.{Kind, up_to}
use Rattle.kinds.specs.Kinds.{nid_operational, n_iter, speed, d_end_after, no_current}
use Rattle.fields.proofs.Lawful.{LawfulKind, narrow, range_lawful, up_to_lawful, operational_lawful, speed_lawful, after_lawful, none_lawful}
use Rattle.format.specs.Format.{Format, times}
use Rattle.format.proofs.Sized.{Measured, over, plus, within}
use Rattle.grammar.proofs.rows.Measured.{sum, row_measured}
use Rattle.kinds.specs.journey.Kinds.{journey_number, q_jp_status, n_iter_sp, q_stop_skip_passes, q_tc_type, q_tc_range, most_where, d_tc_start_location, d_tc_end_location, q_tc_front, v_speed_level, q_low_adhesion_rate}
use Rattle.grammar.specs.journey.Journey.{timing_point, temporary_constraint, journey_segment, journey_body, journey_fields, journey_sheet}
use Rattle.grammar.specs.internal.journey.Parts.{segment_widths, segment_most, arrival_widths, arrival_most, stopping_widths, stopping_most}
use Rattle.grammar.specs.internal.segment.Parts.{header_widths, header_most}
use Rattle.grammar.proofs.journey.Parts.{segment_rows_lem, point_rows_lem, segment_fits, arrival_fits, stopping_fits}
use Rattle.grammar.proofs.segment.Parts.{header_rows_lem, header_fits}

-- a value up to a limit
up_to_lem : (width n limit : ℕ) → (up_to width limit).allowed n ≡ true → n ≤ limit
up_to_lem width n limit e = leb-true n limit (and_right (leb 0 n) (leb n limit) e)

-- the end's kind by the range, and the speed's by the type
pub by_range : (P : Kind → Type 0) (range start : ℕ) → P (d_end_after start) → P (up_to 24 (most_where (eqb range 1) 16777215)) → P (d_tc_end_location range start)
by_range P range start after alone = by_cases (eqb range 2) (λ e. rw e after) (λ e. rw e alone)

pub by_type : (P : Kind → Type 0) (type : ℕ) → P speed → P (up_to 7 0) → P (v_speed_level type)
by_type P type used none = by_cases (eqb type 0) (λ e. rw e used) (λ e. rw e none)

where_most : (used : Bool) (most : ℕ) → most_where used most ≤ most
where_most true most = le_refl _
where_most false most = omega arith

most_where_lem : (used : Bool) (most width : ℕ) → most < 2 ^ width → most_where used most < 2 ^ width
most_where_lem used most width h = omega (arith, where_most used most)

-- the widths of the end and the speed, and their highest numbers in a sheet
pub end_width : (range start : ℕ) → (d_tc_end_location range start).width ≡ 24
end_width range start = by_range (λ k. k.width ≡ 24) range start refl refl

pub level_width : (type : ℕ) → (v_speed_level type).width ≡ 7
level_width type = by_type (λ k. k.width ≡ 7) type refl refl

end_highest : (range start : ℕ) → (d_tc_end_location range start).highest ≤ 16777215
end_highest range start = by_range (λ k. k.highest ≤ 16777215) range start (le_refl _) (where_most (eqb range 1) 16777215)

level_highest : (type : ℕ) → (v_speed_level type).highest ≤ 604
level_highest type = by_type (λ k. k.highest ≤ 604) type (le_refl _) (lit≤ tt)

-- the most bytes of a constraint's start in a sheet, and of the numbers after the start
pub record Groups (type range start : ℕ) : Type 0 where
  pub first : length (groups_in (d_tc_start_location range).highest) ≤ 4
  pub rest : length (groups_in (d_tc_end_location range start).highest) + (length (groups_in (q_tc_front type).highest) + (length (groups_in (v_speed_level type).highest)
      + (length (groups_in (q_low_adhesion_rate type).highest) + length (groups_in no_current.highest)))) ≤ 9

pub constraint_groups : (type range start : ℕ) → Groups type range start
unfolding groups_in
constraint_groups type range start = record {
  first = count_most (d_tc_start_location range).highest 16777215 (where_most (eqb range 0 || eqb range 2) 16777215);
  rest = omega (
    arith,
    count_most (d_tc_end_location range start).highest 16777215 (end_highest range start),
    count_most (q_tc_front type).highest 1 (where_most (eqb type 0) 1),
    count_most (v_speed_level type).highest 604 (level_highest type),
    count_most (q_low_adhesion_rate type).highest 5 (where_most (eqb type 1) 5),
  );
}

-- the kinds of a constraint that depend on its type or its range are lawful
pub start_lawful : (range : ℕ) → LawfulKind (d_tc_start_location range)
start_lawful range = up_to_lawful 24 (most_where (eqb range 0 || eqb range 2) 16777215) (narrow tt) (most_where_lem (eqb range 0 || eqb range 2) 16777215 24 (lit< tt))

pub end_lawful : (range start : ℕ) → LawfulKind (d_tc_end_location range start)
end_lawful range start = by_range LawfulKind range start (after_lawful start) (up_to_lawful 24 (most_where (eqb range 1) 16777215) (narrow tt) (most_where_lem (eqb range 1) 16777215 24 (lit< tt)))

pub front_lawful : (type : ℕ) → LawfulKind (q_tc_front type)
front_lawful type = up_to_lawful 1 (most_where (eqb type 0) 1) (narrow tt) (most_where_lem (eqb type 0) 1 1 (lit< tt))

pub level_lawful : (type : ℕ) → LawfulKind (v_speed_level type)
level_lawful type = by_type LawfulKind type speed_lawful (up_to_lawful 7 0 (narrow tt) (lit< tt))

pub adhesion_lawful : (type : ℕ) → LawfulKind (q_low_adhesion_rate type)
adhesion_lawful type = up_to_lawful 3 (most_where (eqb type 1) 5) (narrow tt) (most_where_lem (eqb type 1) 5 3 (lit< tt))

-- the costs of a constraint's fields
abbrev pub constraint_sum : (Kind → ℕ) → ℕ → ℕ → ℕ → ℕ
constraint_sum cost type range start =
    cost (d_tc_start_location range) + (cost (d_tc_end_location range start) + (cost (q_tc_front type) + (cost (v_speed_level type) + (cost (q_low_adhesion_rate type) + cost no_current))))

-- bounds of the parts that depend on Q_Stop_Skip_Passes, or on the type and the range of a constraint
pub record Costs (lo hi : Kind → ℕ) : Type 0 where
  pub low : ℕ
  pub high : ℕ
  pub is_low : (stop_skip_passes a : ℕ) → low + a ≤ sum lo stopping_widths (stopping_most stop_skip_passes) a
  pub is_high : (stop_skip_passes b : ℕ) → sum hi stopping_widths (stopping_most stop_skip_passes) b ≤ high + b
  pub constrained : ℕ
  pub is_constrained : (type range start : ℕ) → constraint_sum hi type range start ≤ constrained

-- a part n times, where the part adds at most high
times_measured : {lo hi : Kind → ℕ} (part : Format → Format) (high : ℕ) → ((f : Format) (a b : ℕ) → Measured lo hi f a b → Measured lo hi (part f) a (high + b))
    → {f : Format} {a b : ℕ} → Measured lo hi f a b → (n : ℕ) → Measured lo hi (times part n f) a (n * high + b)
unfolding times
times_measured part high adds {a = a} {b = b} m zero = within a (0 * high + b) m (omega arith) (omega arith)
times_measured part high adds {f} {a} {b} m (suc n) = within a (suc n * high + b) (adds (times part n f) a (n * high + b) (times_measured part high adds m n)) (omega arith) (omega arith)

module _ {lo hi : Kind → ℕ} (c : Costs lo hi) where
  abbrev pub point_high : ℕ
  point_high = sum hi arrival_widths arrival_most (hi q_stop_skip_passes + c.high)

  point_measured : {f : Format} {a b : ℕ} → Measured lo hi f a b → Measured lo hi (timing_point f) a (point_high + b)
  point_measured {f} {a} {b} m =
      rw (point_rows_lem f) (within a (point_high + b)
      (row_measured (plus (up_to_lawful 2 2 (narrow tt) (lit< tt)) λ stop_skip_passes _.
      within (c.low + a) (c.high + b) (row_measured m stopping_widths (stopping_most stop_skip_passes) (stopping_fits stop_skip_passes)) (c.is_low stop_skip_passes a) (c.is_high stop_skip_passes b))
      arrival_widths arrival_most arrival_fits) (omega arith) (omega arith))

  abbrev pub constraint_high : ℕ
  constraint_high = hi q_tc_type + (hi q_tc_range + c.constrained)

  constraint_measured : {f : Format} {a b : ℕ} → Measured lo hi f a b → Measured lo hi (temporary_constraint f) a (constraint_high + b)
  constraint_measured {f} {a} {b} m =
      within a (constraint_high + b)
      (plus (up_to_lawful 2 3 (narrow tt) (lit< tt)) λ type _. plus (up_to_lawful 2 3 (narrow tt) (lit< tt)) λ range _.
      within a (c.constrained + b)
      (plus (start_lawful range) λ start _. within a (c.constrained - hi (d_tc_start_location range) + b)
      (plus (end_lawful range start) λ _ _. plus (front_lawful type) λ _ _. plus (level_lawful type) λ _ _. plus (adhesion_lawful type) λ _ _. plus none_lawful λ _ _. m)
      (omega arith) (omega (arith, c.is_constrained type range start)))
      (omega arith) (omega (arith, c.is_constrained type range 0))) (omega arith) (omega arith)

  module _ (limit : ℕ) (few : limit ≤ 31) where
    abbrev pub segment_high : ℕ
    segment_high = sum hi segment_widths segment_most (hi (n_iter 31) + (31 * point_high + (hi (n_iter limit) + 31 * constraint_high)))

    segment_measured : {f : Format} {a b : ℕ} → Measured lo hi f a b → Measured lo hi (journey_segment limit f) a (segment_high + b)
    segment_measured {f} {a} {b} m =
        rw (segment_rows_lem limit f) (within a (segment_high + b)
        (row_measured (plus (up_to_lawful 5 31 (narrow tt) (lit< tt)) λ n e.
        within a (31 * point_high + (hi (n_iter limit) + (31 * constraint_high + b))) (times_measured timing_point point_high (λ f a b m. point_measured m)
        (within a (hi (n_iter limit) + (31 * constraint_high + b))
        (plus (up_to_lawful 5 limit (narrow tt) (omega arith)) λ k d.
        within a (31 * constraint_high + b) (times_measured temporary_constraint constraint_high (λ f a b m. constraint_measured m) m k)
        (omega arith) (omega (arith, mul-le-mul_right constraint_high (le_trans (up_to_lem 5 k limit d) few)))) (omega arith) (omega arith)) n)
        (omega arith) (omega (arith, mul-le-mul_right point_high (up_to_lem 5 n 31 e))))
        segment_widths segment_most segment_fits) (omega arith) (omega arith))

    abbrev pub body_high : ℕ
    body_high = hi q_jp_status + (hi n_iter_sp + 255 * segment_high)

    abbrev pub body_low : ℕ
    body_low = lo q_jp_status + (lo n_iter_sp + 0)

    pub body_measured : Measured lo hi (journey_body limit) body_low body_high
    unfolding journey_body
    body_measured =
        plus (up_to_lawful 3 4 (narrow tt) (lit< tt)) λ _ _. plus (up_to_lawful 8 255 (narrow tt) (lit< tt)) λ n e.
        within 0 (255 * segment_high) (times_measured (journey_segment limit) segment_high (λ f a b m. segment_measured m) over n) (omega arith) (omega (arith, mul-le-mul_right segment_high (up_to_lem 8 n 255 e)))

    pub fields_measured : Measured lo hi (journey_fields limit) (lo nid_operational + sum lo header_widths header_most body_low) (hi nid_operational + sum hi header_widths header_most body_high)
    unfolding journey_fields
    fields_measured = rw (header_rows_lem (journey_body limit)) (plus operational_lawful λ _ _. row_measured body_measured header_widths header_most header_fits)

    pub sheet_measured : Measured lo hi (journey_sheet limit)
        (lo journey_number + (lo nid_operational + sum lo header_widths header_most body_low)) (hi journey_number + (hi nid_operational + sum hi header_widths header_most body_high))
    unfolding journey_sheet
    sheet_measured = plus (range_lawful 8 4 4 2 (narrow tt) (lit< tt)) λ _ _. fields_measured
