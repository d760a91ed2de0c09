-- The parts of a journey's tree that a pass takes one by one. Used by contracts of the code; no promise names these.
use Rattle.std.specs.Prelude.{List, [], ◌∷◌, ℕ}
use Rattle.kinds.specs.Kinds.{n_iter}
use Rattle.format.specs.Format.{Format, field, then, times}
use Rattle.grammar.specs.segment.Segment.{header}
use Rattle.kinds.specs.journey.Kinds.{q_jp_status, n_iter_sp, most_at, q_tc_range}
use Rattle.grammar.specs.journey.Journey.{timing_point, stretch, restriction, temporary_constraint, journey_segment, constraints}

-- NID_C to Q_SP_DIR of a segment
abbrev pub segment_widths : List ℕ
segment_widths = 10 ∷ 32 ∷ 8 ∷ 8 ∷ 1 ∷ []

abbrev pub segment_most : List ℕ
segment_most = 1023 ∷ 4294967295 ∷ 255 ∷ 255 ∷ 1 ∷ []

-- NID_TP to Q_TP_Alignment of a timing point
abbrev pub arrival_widths : List ℕ
arrival_widths = 32 ∷ 15 ∷ 17 ∷ 10 ∷ 2 ∷ []

abbrev pub arrival_most : List ℕ
arrival_most = 4294967295 ∷ 32767 ∷ 86400 ∷ 1023 ∷ 2 ∷ []

-- Q_TP_Information to Q_Automatic_Closing of a timing point, by Q_Stop_Skip_Passes
abbrev pub stopping_widths : List ℕ
stopping_widths = 2 ∷ 1 ∷ 2 ∷ 1 ∷ 1 ∷ 1 ∷ 15 ∷ 17 ∷ 10 ∷ 1 ∷ []

abbrev pub stopping_most : ℕ → List ℕ
stopping_most stop_skip_passes =
    1 ∷ 1 ∷ most_at stop_skip_passes 3 ∷ most_at stop_skip_passes 1 ∷ most_at stop_skip_passes 1 ∷ most_at stop_skip_passes 1 ∷ most_at stop_skip_passes 32767 ∷ most_at stop_skip_passes 86399 ∷ most_at stop_skip_passes 1023 ∷ most_at stop_skip_passes 1 ∷ []

-- a temporary constraint after its range, and after its type
abbrev pub after_range : ℕ → ℕ → Format → Format
after_range type range f = stretch range (restriction type f)

abbrev pub after_type : ℕ → Format → Format
after_type type f = field q_tc_range λ range. after_range type range f

-- the count of a segment's temporary constraints, and the constraints
abbrev pub constraint_list : ℕ → Format → Format
constraint_list limit f = field (n_iter limit) λ m. times temporary_constraint m f

-- a segment after the count of its timing points
abbrev pub segment_rest : ℕ → ℕ → Format → Format
segment_rest limit n f = times timing_point n (constraint_list limit f)

-- the body's fields, and all fields after L_PACKET_ATO, with whatever follows
abbrev pub journey_body_part : Format → Format
journey_body_part f = then q_jp_status (field n_iter_sp λ n. times (journey_segment constraints) n f)

abbrev pub journey_part : Format → Format
journey_part f = header (journey_body_part f)
