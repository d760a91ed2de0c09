-- The widths of a journey's fields that stand in a row. Used by contracts of the code; no promise names these.
use Rattle.std.specs.Prelude.{List, [], ◌∷◌, ◌++◌, ℕ}
use Rattle.grammar.specs.internal.journey.Parts.{segment_widths, arrival_widths, stopping_widths}
use Rattle.sheet_write_segment.specs.internal.head.Widths.{header_fields}

-- Q_JP_Status and N_ITER_SP; and all fields from NID_OPERATIONAL to N_ITER_SP
abbrev pub count_widths : List ℕ
count_widths = 3 ∷ 8 ∷ []

abbrev pub head_widths : List ℕ
head_widths = header_fields ++ count_widths

-- NID_C to N_ITER; and the last four of them, from the versions on
abbrev pub start_widths : List ℕ
start_widths = segment_widths ++ 5 ∷ []

abbrev pub version_widths : List ℕ
version_widths = 8 ∷ 8 ∷ 1 ∷ 5 ∷ []

-- NID_TP to Q_Automatic_Closing; T_Arrival_Window to Q_Train_Hold; T_Minimum_Dwell_Time and Q_Automatic_Closing
abbrev pub point_widths : List ℕ
point_widths = arrival_widths ++ 2 ∷ stopping_widths

abbrev pub choice_widths : List ℕ
choice_widths = 10 ∷ 2 ∷ 2 ∷ 2 ∷ 1 ∷ 2 ∷ 1 ∷ 1 ∷ 1 ∷ []

abbrev pub closing_widths : List ℕ
closing_widths = 10 ∷ 1 ∷ []
