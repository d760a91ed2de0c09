-- The ends of a journey: a body has at least 11 bits, a sheet at least 8 bytes, and at most 15,226 bytes where its packet's body has at most 65,535 bits. Each end is reached.
use mathlib.Core.Path.{◌≡◌}
use mathlib.Core.Bool.{true}
use mathlib.Core.List.{List, [], ◌∷◌}
use Prim.Native.Nat.{ℕ, zero, suc, ◌+◌, ◌*◌, ◌≤◌}
use native.Mathlib.Nat.{mul-le-mul_right}
use native.Mathlib.Omega.{arith}
use borrow.Author.Tests.{leb-true}
use lib.Dec.{eqb, leb, lit<, lit≤}
use lib.ListN.{length}
use Rattle.bits.proofs.Tests.{and_right, by_cases}
use Rattle.numbers.specs.Numbers.{groups_in}
use Rattle.numbers.proofs.Counting.{count_most}
use Rattle.kinds.specs.declared.Item.{Item}
use Rattle.kinds.specs.Kind.{Kind}
use Rattle.fields.proofs.Lawful.{narrow, range_lawful, up_to_lawful, operational_lawful, none_lawful}
use Rattle.format.specs.Format.{Format, write, times}
use Rattle.format.specs.Media.{packet, sheet}
use Rattle.format.specs.Conforming.{Conforming, InSheet}
use Rattle.format.proofs.Lawful.{Lawful}
use Rattle.format.proofs.Sized.{Measured, within, lawful}
use Rattle.grammar.specs.segment.Segment.{header}
use Rattle.grammar.specs.internal.rows.Rows.{row, fits}
use Rattle.grammar.proofs.rows.Measured.{no_row, first_fits, first_lawful, sum}
use Rattle.grammar.specs.journey.Journey.{timing_point, temporary_constraint, journey_segment, journey_body, journey_fields, journey_sheet}
use Rattle.grammar.specs.internal.journey.Parts.{segment_widths, segment_most, arrival_widths, arrival_most, stopping_widths, stopping_most}
use Rattle.grammar.specs.internal.segment.Parts.{header_widths, header_most}
use Rattle.grammar.proofs.journey.Parts.{segment_rows_lem, point_rows_lem, segment_fits, arrival_fits, stopping_fits}
use Rattle.grammar.proofs.segment.Parts.{header_rows_lem, header_fits}
use Rattle.grammar.proofs.segment.Ends.{bits, one, groups}
use Rattle.grammar.proofs.journey.Tree.{Costs, end_width, level_width, constraint_groups, start_lawful, end_lawful, front_lawful, level_lawful, adhesion_lawful, fields_measured, sheet_measured}
use Rattle.grammar.proofs.journey.Weighed.{Weighed, empty, more, looser, weighs}

pub bit_costs : Costs bits bits
bit_costs = record {
  low = 51;
  high = 51;
  is_low = λ stop_skip_passes a. omega arith;
  is_high = λ stop_skip_passes b. omega arith;
  constrained = 69;
  is_constrained = λ type range start. omega (arith, end_width range start, level_width type);
}

group_costs : Costs one groups
unfolding groups_in
group_costs = record {
  low = 10;
  high = 15;
  is_low = λ stop_skip_passes a. omega arith;
  is_high = λ stop_skip_passes b. by_cases (eqb stop_skip_passes 2) (λ e. rw e (omega arith)) (λ e. rw e (omega arith));
  constrained = 13;
  is_constrained = λ type range start. let g = constraint_groups type range start in omega (arith, g.first, g.rest);
}

module _ (limit : ℕ) (few : limit ≤ 31) where
  pub fields_lawful : Lawful (journey_fields limit)
  fields_lawful = lawful (fields_measured bit_costs limit few)

  pub sheet_lawful : Lawful (journey_sheet limit)
  sheet_lawful = lawful (sheet_measured bit_costs limit few)

  -- the 96 bits of the header after L_PACKET_ATO, and the body's
  pub fields_bits : Measured bits bits (journey_fields limit) (96 + 11) (96 + 1614416)
  unfolding bit_costs
  fields_bits = within (96 + 11) (96 + 1614416) (fields_measured bit_costs limit few) (lit≤ tt) (lit≤ tt)

  -- the 96 bits, the body's bits, and 8 bits of the packet number, which a sheet has too
  pub sheet_bits : Measured bits bits (journey_sheet limit) (104 + 11) (104 + 1614416)
  unfolding bit_costs
  sheet_bits = within (104 + 11) (104 + 1614416) (sheet_measured bit_costs limit few) (lit≤ tt) (lit≤ tt)

  -- the packet number, the header's five, Q_JP_Status and N_ITER_SP have a byte each at least
  pub sheet_groups : Measured one groups (journey_sheet limit) 8 359318
  unfolding groups_in group_costs
  sheet_groups = within 8 359318 (sheet_measured group_costs limit few) (lit≤ tt) (omega (arith, count_most limit 31 few))

-- ---- bytes times 4,068 against bits times 944: a segment full of timing points has 944 bytes in its sheet for 4,068 bits

abbrev bytes_weight : Kind → ℕ
bytes_weight k = 4068 * groups k

abbrev bits_weight : Kind → ℕ
bits_weight k = 944 * k.width

abbrev Weigh : Format → ℕ → ℕ → Type 0
Weigh f add leave = Weighed 4068 944 f add leave

module _ {f : Format} {add leave : ℕ} (rest : Weigh f add leave) where
  row_weighed : (ws ms : List ℕ) → fits ws ms ≡ true → Weigh (row ws ms f) (sum bytes_weight ws ms add) (sum bits_weight ws ms leave)
  unfolding row
  row_weighed [] [] e = rest
  row_weighed [] (m ∷ ms) e = no_row e
  row_weighed (w ∷ ws) [] e = no_row e
  row_weighed (w ∷ ws) (m ∷ ms) e = let h = first_fits w m ws ms e in more (first_lawful h) λ _ _. row_weighed ws ms h.rest

-- a bound with a larger add, or a smaller leave
loosely : {f : Format} {a b : ℕ} (add leave : ℕ) → Weigh f a b → a + leave ≤ add + b → Weigh f add leave
loosely add leave w h = looser w h

module _ {f : Format} {add leave : ℕ} where
  -- 30 bytes at most for 129 bits
  point_weighed : Weigh f add leave → Weigh (timing_point f) (264 + add) leave
  unfolding groups_in
  point_weighed w =
      rw (point_rows_lem f) (loosely (264 + add) leave (row_weighed (more (up_to_lawful 2 2 (narrow tt) (lit< tt)) λ stop_skip_passes _.
      loosely (4068 * 15 + add) (944 * 51 + leave) (row_weighed w stopping_widths (stopping_most stop_skip_passes) (stopping_fits stop_skip_passes)) (stopping stop_skip_passes))
      arrival_widths arrival_most arrival_fits) (omega arith))
    where
      stopping : (stop_skip_passes : ℕ) → sum bytes_weight stopping_widths (stopping_most stop_skip_passes) add + (944 * 51 + leave) ≤ 4068 * 15 + add + sum bits_weight stopping_widths (stopping_most stop_skip_passes) leave
      stopping stop_skip_passes = by_cases (eqb stop_skip_passes 2) (λ e. rw e (omega arith)) (λ e. rw e (omega arith))

-- a part n times, where the part adds each
times_weighed : (part : Format → Format) (each : ℕ) → ((f : Format) (add leave : ℕ) → Weigh f add leave → Weigh (part f) (each + add) leave)
    → {f : Format} {add leave : ℕ} → Weigh f add leave → (n : ℕ) → Weigh (times part n f) (n * each + add) leave
unfolding times
times_weighed part each adds {add = add} {leave = leave} w zero = loosely (0 * each + add) leave w (omega arith)
times_weighed part each adds {f} {add} {leave} w (suc n) = loosely (suc n * each + add) leave (adds (times part n f) (n * each + add) leave (times_weighed part each adds w n)) (omega arith)

-- 15 bytes at most for 73 bits
constraint_weighed : {f : Format} {add leave : ℕ} → Weigh f add leave → Weigh (temporary_constraint f) add leave
unfolding groups_in
constraint_weighed {f} {add} {leave} w =
    loosely add leave (more (up_to_lawful 2 3 (narrow tt) (lit< tt)) λ type _. more (up_to_lawful 2 3 (narrow tt) (lit< tt)) λ range _.
    loosely (4068 * 13 + add) (944 * 69 + leave) (more (start_lawful range) λ start _.
    loosely (4068 * 9 + add) (944 * 45 + leave)
    (more (end_lawful range start) λ _ _. more (front_lawful type) λ _ _. more (level_lawful type) λ _ _. more (adhesion_lawful type) λ _ _. more none_lawful λ _ _. w)
    (omega (arith, (constraint_groups type range start).rest, end_width range start, level_width type)))
    (omega (arith, (constraint_groups type range 0).first))) (omega arith)

module _ (limit : ℕ) (few : limit ≤ 31) where
  -- 14 bytes at most for 69 bits, up to 31 timing points, and constraints
  segment_weighed : {f : Format} {add leave : ℕ} → Weigh f add leave → Weigh (journey_segment limit f) add leave
  unfolding groups_in
  segment_weighed {f} {add} {leave} w =
      rw (segment_rows_lem limit f) (loosely add leave (row_weighed (more (up_to_lawful 5 31 (narrow tt) (lit< tt)) λ n e.
      loosely (31 * 264 + (4068 + add)) (944 * 5 + leave) (times_weighed timing_point 264 (λ f a b w. point_weighed w) (more (up_to_lawful 5 limit (narrow tt) (omega arith)) λ k _. loosely add leave (times_weighed temporary_constraint 0 (λ f a b w. loosely (0 + a) b (constraint_weighed w) (omega arith)) w k) (omega arith)) n)
      (omega (arith, mul-le-mul_right 264 (leb-true n 31 (and_right (leb 0 n) (leb n 31) e)), count_most limit 31 few)))
      segment_widths segment_most segment_fits) (omega arith))

  header_weighed : {f : Format} {add leave : ℕ} → Weigh f add leave → Weigh (header f) (69156 + add) (90624 + leave)
  unfolding groups_in
  header_weighed {f} {add} {leave} w =
      rw (header_rows_lem f) (loosely (69156 + add) (90624 + leave) (more operational_lawful λ _ _. row_weighed w header_widths header_most header_fits) (omega arith))

  sheet_weighed : Weigh (journey_sheet limit) 0 23132
  unfolding groups_in journey_sheet journey_fields journey_body
  sheet_weighed =
      loosely 0 23132 (more (range_lawful 8 4 4 2 (narrow tt) (lit< tt)) λ _ _.
      header_weighed (more (up_to_lawful 3 4 (narrow tt) (lit< tt)) λ _ _. more (up_to_lawful 8 255 (narrow tt) (lit< tt)) λ n _. loosely 0 0 (times_weighed (journey_segment limit) 0 (λ f a b w. loosely (0 + a) b (segment_weighed w) (omega arith)) empty n) (omega arith))) (omega arith)

  -- a sheet whose packet's body has at most 65,535 bits
  pub sheet_most : {l : List Item} → Conforming InSheet (journey_sheet limit) l → length (write packet (journey_sheet limit) l) ≤ 104 + 65535
      → length (write sheet (journey_sheet limit) l) ≤ 15226
  sheet_most c h = omega (arith, weighs (sheet_weighed) c)
