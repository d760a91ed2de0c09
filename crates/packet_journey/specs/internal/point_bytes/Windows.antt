-- The fields of a timing point that are read at once. Used by contracts of the code; no promise names these.
use Rattle.std.specs.Prelude.{List, [], ◌∷◌, ℕ}
use Rattle.kinds.specs.journey.Kinds.{most_at}

-- the date and the seconds of the latest arrival
abbrev pub latest_widths : List ℕ
latest_widths = 15 ∷ 17 ∷ []

abbrev pub latest_most : List ℕ
latest_most = 32767 ∷ 86400 ∷ []

-- T_Arrival_Window to Q_Day_Light_Saving, with Q_Stop_Skip_Passes among them
abbrev pub marks_widths : List ℕ
marks_widths = 10 ∷ 2 ∷ 2 ∷ 2 ∷ 1 ∷ []

abbrev pub marks_most : List ℕ
marks_most = 1023 ∷ 2 ∷ 2 ∷ 1 ∷ 1 ∷ []

-- Q_Opening_Door_Side to the date of the departure, and its seconds to Q_Automatic_Closing
abbrev pub doors_widths : List ℕ
doors_widths = 2 ∷ 1 ∷ 1 ∷ 1 ∷ 15 ∷ []

abbrev pub leaving_widths : List ℕ
leaving_widths = 17 ∷ 10 ∷ 1 ∷ []

-- "the last eight fields (48 bits, from the door side on)", by Q_Stop_Skip_Passes
abbrev pub eight_most : ℕ → List ℕ
eight_most stop_skip_passes = most_at stop_skip_passes 3 ∷ most_at stop_skip_passes 1 ∷ most_at stop_skip_passes 1 ∷ most_at stop_skip_passes 1 ∷ most_at stop_skip_passes 32767 ∷ most_at stop_skip_passes 86399 ∷ most_at stop_skip_passes 1023 ∷ most_at stop_skip_passes 1 ∷ []
