-- The fields of a journey, in the order of document 02 and of 002's journey table, over the limit of temporary constraints.
use Rattle.std.specs.Prelude.{ℕ}
use Rattle.kinds.specs.Kinds.{nid_c, nid_sp, m_sp_version, n_iter, no_current}
use Rattle.format.specs.Format.{Format, end, field, then, times}
use Rattle.grammar.specs.segment.Segment.{header}
use Rattle.kinds.specs.journey.Kinds.{journey_number, q_jp_status, n_iter_sp, q_sp_dir, nid_tp, t_latest_arrival_date, t_latest_arrival_seconds, t_arrival_window, q_tp_alignment, q_stop_skip_passes, q_tp_information, q_day_light_saving, q_opening_door_side, q_centralised_opening, q_relaxed_coupler, q_train_hold, t_departure_date, t_departure_seconds, t_minimum_dwell_time, q_automatic_closing, q_tc_type, q_tc_range, d_tc_start_location, d_tc_end_location, q_tc_front, v_speed_level, q_low_adhesion_rate}

-- "the last eight fields (48 bits, from the door side on)", by Q_Stop_Skip_Passes
abbrev pub stopping_point : ℕ → Format → Format
stopping_point stop_skip_passes f =
    then (q_opening_door_side stop_skip_passes) (then (q_centralised_opening stop_skip_passes) (then (q_relaxed_coupler stop_skip_passes) (then (q_train_hold stop_skip_passes)
    (then (t_departure_date stop_skip_passes) (then (t_departure_seconds stop_skip_passes) (then (t_minimum_dwell_time stop_skip_passes) (then (q_automatic_closing stop_skip_passes) f)))))))

-- "A timing point has 129 bits, .. from NID_TP to Q_Automatic_Closing, all always sent"
abbrev pub timing_point : Format → Format
timing_point f =
    then nid_tp (then t_latest_arrival_date (then t_latest_arrival_seconds (then t_arrival_window (then q_tp_alignment
    (field q_stop_skip_passes λ stop_skip_passes. then q_tp_information (then q_day_light_saving (stopping_point stop_skip_passes f)))))))

-- "start 24, end 24", by the range
abbrev pub stretch : ℕ → Format → Format
stretch range f = field (d_tc_start_location range) λ start. then (d_tc_end_location range start) f

-- "Q_FRONT 1, V_Speed_Level 7 (0 to 120), adhesion 3 (0 to 5), current 10", by the type
abbrev pub restriction : ℕ → Format → Format
restriction type f = then (q_tc_front type) (then (v_speed_level type) (then (q_low_adhesion_rate type) (then no_current f)))

-- "each Q_TC_Type 2, Q_TC_Range 2, start 24, end 24, .."
abbrev pub temporary_constraint : Format → Format
temporary_constraint f = field q_tc_type λ type. field q_tc_range λ range. stretch range (restriction type f)

-- "NID_C 10, NID_SP 32, version 8 + 8, Q_SP_DIR 1, N_ITER 5 timing points, and a 5-bit count of temporary constraints", with the constraints
abbrev pub journey_segment : ℕ → Format → Format
journey_segment limit f =
    then nid_c (then nid_sp (then m_sp_version (then m_sp_version (then q_sp_dir
    (field (n_iter 31) λ n. times timing_point n (field (n_iter limit) λ m. times temporary_constraint m f))))))

-- "Q_JP_Status 3 bits (0 to 4), N_ITER_SP 8, then per segment"
unfoldable pub journey_body : ℕ → Format
journey_body limit = then q_jp_status (field n_iter_sp λ n. times (journey_segment limit) n end)

-- the header after L_PACKET_ATO, and the body
unfoldable pub journey_fields : ℕ → Format
unfolding journey_body
journey_fields limit = header (journey_body limit)

-- "It has a sheet too, one number per field": the packet number, 4, comes first
unfoldable pub journey_sheet : ℕ → Format
unfolding journey_fields
journey_sheet limit = then journey_number (journey_fields limit)

-- "up to 31 constraints per segment"
abbrev pub constraints : ℕ
constraints = 31
