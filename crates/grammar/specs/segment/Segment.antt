-- The fields of a segment, in the document's order, over the limit of wire changes.
use Rattle.std.specs.Prelude.{ℕ, zero, suc}
use Rattle.kinds.specs.Kinds.{nid_packet_ato, nid_operational, nid_engine, t_timestamp_date, t_timestamp_seconds, n_packet_counter, nid_c, nid_sp, m_sp_version, l_sp, d_eoa_offset, q_utc_offset, m_sp_altitude, speed, q_front, n_iter, q_diff, class, d_location, m_voltage, nid_c_traction, m_current}
use Rattle.format.specs.Format.{Format, end, field, then}

-- "specific entries: Q_DIFF 2 (0 to 2), class 4, V_DIFF 7 (0 to 120)", n of them
unfoldable pub entries : ℕ → Format → Format
entries zero f = f
entries (suc n) f = field q_diff λ q. then (class q) (then speed (entries n f))

-- "V_STATIC 7 (0 to 120, steps of 5 km/h), Q_FRONT 1, N_ITER 5 (0 to 31), then that many specific entries"
abbrev pub profile : Format → Format
profile f = then speed (then q_front (field (n_iter 31) λ n. entries n f))

-- "M_VOLTAGE 4 (0 to 5), NID_CTRACTION 10"
abbrev pub voltage : Format → Format
voltage f = field m_voltage λ u. then (nid_c_traction u) f

-- "M_CURRENT 10"
abbrev pub current : Format → Format
current f = then m_current f

-- "In each of the three lists of changes the locations rise strictly, from at least 1 to at most L_SP - 1":
-- n changes after the location last, each a location and what the list begins with
unfoldable pub changes : (Format → Format) → ℕ → ℕ → ℕ → Format → Format
changes start lsp last zero f = f
changes start lsp last (suc n) f = field (d_location last lsp) λ x. start (changes start lsp x n f)

-- "N_ITER 5 .., then that many changes": what holds from the segment's start on, a count up to the limit, and that many changes
abbrev pub part : (Format → Format) → ℕ → ℕ → Format → Format
part start limit lsp f = start (field (n_iter limit) λ n. changes start lsp 0 n f)

-- "the three lists of changes": the speed profile with up to 31 changes, the rated voltage and the current limitation with up to the limit
unfoldable pub lists : ℕ → ℕ → Format
lists limit lsp = part profile 31 lsp (part voltage limit lsp (part current limit lsp end))

-- "Body, in order"
unfoldable pub body : ℕ → Format
unfolding lists
body limit =
    then nid_c (then nid_sp (then m_sp_version (then m_sp_version
    (field l_sp λ lsp. then d_eoa_offset (then q_utc_offset (then m_sp_altitude (lists limit lsp)))))))

-- "Header, 120 bits": its fields after L_PACKET_ATO, NID_OPERATIONAL 32, NID_ENGINE 24, T_Timestamp 15 + 17, N_Packet_Counter 8
abbrev pub header : Format → Format
header f = then nid_operational (then nid_engine (then t_timestamp_date (then t_timestamp_seconds (then n_packet_counter f))))

-- the header after L_PACKET_ATO, and the body
unfoldable pub fields : ℕ → Format
unfolding body
fields limit = header (body limit)

-- "The numbers stand in packet order, .. without L_PACKET_ATO and padding (the packet number, 6, comes first)"
unfoldable pub sheet_fields : ℕ → Format
unfolding fields
sheet_fields limit = then nid_packet_ato (fields limit)

-- "31 voltage and 31 current changes where 23 were allowed"
abbrev pub wire_changes : ℕ
wire_changes = 31
