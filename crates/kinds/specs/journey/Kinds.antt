-- The field kinds of a journey, in the order of the packet.
use Rattle.std.specs.Prelude.{Bool, cond, ◌||◌, ℕ, eqb}
use Rattle.kinds.specs.Kind.{Kind, range, up_to}
use Rattle.kinds.specs.Kinds.{speed, d_end_after}

-- "packet number 4", refused with 2
abbrev pub journey_number : Kind
journey_number = range 8 4 4 2

-- "Q_JP_Status 3 bits (0 to 4), N_ITER_SP 8"
abbrev pub q_jp_status : Kind
q_jp_status = up_to 3 4

abbrev pub n_iter_sp : Kind
n_iter_sp = up_to 8 255

-- "Q_SP_DIR 1"
abbrev pub q_sp_dir : Kind
q_sp_dir = up_to 1 1

-- ---- "fields in the order and widths of the journey table in source document 002, from NID_TP to Q_Automatic_Closing"

abbrev pub nid_tp : Kind
nid_tp = up_to 32 4294967295

abbrev pub t_latest_arrival_date : Kind
t_latest_arrival_date = up_to 15 32767

-- "Latest arrival seconds reach 86,400"
abbrev pub t_latest_arrival_seconds : Kind
t_latest_arrival_seconds = up_to 17 86400

abbrev pub t_arrival_window : Kind
t_arrival_window = up_to 10 1023

-- "Alignment and stop kind are 0 to 2, information 0 to 1"
abbrev pub q_tp_alignment : Kind
q_tp_alignment = up_to 2 2

abbrev pub q_stop_skip_passes : Kind
q_stop_skip_passes = up_to 2 2

abbrev pub q_tp_information : Kind
q_tp_information = up_to 2 1

abbrev pub q_day_light_saving : Kind
q_day_light_saving = up_to 1 1

-- "At a passing point the last eight fields (48 bits, from the door side on) are 0": the largest value, by Q_Stop_Skip_Passes, which is 2 at a passing point
abbrev pub most_at : ℕ → ℕ → ℕ
most_at stop_skip_passes most = cond (eqb stop_skip_passes 2) 0 most

abbrev pub q_opening_door_side : ℕ → Kind
q_opening_door_side stop_skip_passes = up_to 2 (most_at stop_skip_passes 3)

abbrev pub q_centralised_opening : ℕ → Kind
q_centralised_opening stop_skip_passes = up_to 1 (most_at stop_skip_passes 1)

abbrev pub q_relaxed_coupler : ℕ → Kind
q_relaxed_coupler stop_skip_passes = up_to 1 (most_at stop_skip_passes 1)

abbrev pub q_train_hold : ℕ → Kind
q_train_hold stop_skip_passes = up_to 1 (most_at stop_skip_passes 1)

abbrev pub t_departure_date : ℕ → Kind
t_departure_date stop_skip_passes = up_to 15 (most_at stop_skip_passes 32767)

-- "departure seconds 86,399"
abbrev pub t_departure_seconds : ℕ → Kind
t_departure_seconds stop_skip_passes = up_to 17 (most_at stop_skip_passes 86399)

abbrev pub t_minimum_dwell_time : ℕ → Kind
t_minimum_dwell_time stop_skip_passes = up_to 10 (most_at stop_skip_passes 1023)

abbrev pub q_automatic_closing : ℕ → Kind
q_automatic_closing stop_skip_passes = up_to 1 (most_at stop_skip_passes 1)

-- ---- "each Q_TC_Type 2, Q_TC_Range 2, start 24, end 24, Q_FRONT 1, V_Speed_Level 7 (0 to 120), adhesion 3 (0 to 5), current 10"

-- "Document 002's fifth type, traction current, does not fit two bits and is refused"
abbrev pub q_tc_type : Kind
q_tc_type = up_to 2 3

abbrev pub q_tc_range : Kind
q_tc_range = up_to 2 3

-- "unused locations are 0", "A field the type does not use is 0": the largest value, by whether it is used
abbrev pub most_where : Bool → ℕ → ℕ
most_where used most = cond used most 0

-- "A range of starts uses the start only, .. both uses both"
abbrev pub d_tc_start_location : ℕ → Kind
d_tc_start_location range = up_to 24 (most_where (eqb range 0 || eqb range 2) 16777215)

-- "ends the end only, both uses both with start below end, whole segment neither"
abbrev pub d_tc_end_location : ℕ → ℕ → Kind
d_tc_end_location range start = cond (eqb range 2) (d_end_after start) (up_to 24 (most_where (eqb range 1) 16777215))

-- "Type 0 uses Q_FRONT and speed, 1 adhesion; 2 and 3 (driving modes) use none"
abbrev pub q_tc_front : ℕ → Kind
q_tc_front type = up_to 1 (most_where (eqb type 0) 1)

-- "Speed and current in the sheet follow the segment rules"; an unused speed is the number 0 itself
abbrev pub v_speed_level : ℕ → Kind
v_speed_level type = cond (eqb type 0) speed (up_to 7 0)

abbrev pub q_low_adhesion_rate : ℕ → Kind
q_low_adhesion_rate type = up_to 3 (most_where (eqb type 1) 5)
