-- The field kinds of the header and the segment, in the order of the packet.
use Rattle.std.specs.Prelude.{Bool, cond, ◌&&◌, ◌||◌, ℕ, zero, suc, ◌+◌, ◌*◌, ◌-◌, ◌/◌, ◌%◌, eqb, ltb, leb}
use Rattle.std.proofs.Math.Option.{some}
use Rattle.kinds.specs.Kind.{Kind, when, same, range, up_to}
use Rattle.kinds.specs.Tables.{cant_figures, volts, entry_of}

-- ---- "Header, 120 bits"

-- "6 on our link", refused with 2
abbrev pub nid_packet_ato : Kind
nid_packet_ato = range 8 6 6 2

-- "L_PACKET_ATO 16"
abbrev pub l_packet_ato : Kind
l_packet_ato = up_to 16 65535

-- "0 to 9 or F"
abbrev pub digit : ℕ → Bool
digit d = leb d 9 || eqb d 15

-- "Each four-bit digit of NID_OPERATIONAL is 0 to 9 or F": n digits, and no more
unfoldable pub digits : ℕ → ℕ → Bool
digits zero v = eqb v 0
digits (suc n) v = digit (v % 16) && digits n (v / 16)

-- "NID_OPERATIONAL 32"
abbrev pub nid_operational : Kind
nid_operational = same 32 4294967295 (λ _. 4) (digits 8)

-- "NID_ENGINE 24"
abbrev pub nid_engine : Kind
nid_engine = up_to 24 16777215

-- "date 15"
abbrev pub t_timestamp_date : Kind
t_timestamp_date = up_to 15 32767

-- "seconds 17 (0 to 86,399)"
abbrev pub t_timestamp_seconds : Kind
t_timestamp_seconds = up_to 17 86399

-- "packet counter 8"
abbrev pub n_packet_counter : Kind
n_packet_counter = up_to 8 255

-- ---- "Body, in order"

-- "NID_C 10"
abbrev pub nid_c : Kind
nid_c = up_to 10 1023

-- "NID_SP 32"
abbrev pub nid_sp : Kind
nid_sp = up_to 32 4294967295

-- "version 8 + 8"
abbrev pub m_sp_version : Kind
m_sp_version = up_to 8 255

-- "L_SP 24 (1 to 16,777,215 cm)"
abbrev pub l_sp : Kind
l_sp = range 24 1 16777215 4

-- "D_EoA_Offset 24"
abbrev pub d_eoa_offset : Kind
d_eoa_offset = up_to 24 16777215

-- "Q_UTC_Offset 7 (0 to 112)"
abbrev pub q_utc_offset : Kind
q_utc_offset = up_to 7 112

-- "sent with 100,000 added"; the sheet's number has 100,000 added too
abbrev pub m_sp_altitude : Kind
m_sp_altitude = up_to 20 1048575

-- "km/h, 0 to 604", "whole part of speed / 5"; "Back from the packet, speeds are times 5"
abbrev pub speed : Kind
speed = record { width = 7; largest = 120; highest = 604; allowed = λ v. leb v 120; refusal = λ _. 4; lower = λ a. when (leb a 604) (a / 5); raise = λ v. v * 5 }

-- "Q_FRONT 1"
abbrev pub q_front : Kind
q_front = up_to 1 1

-- "N_ITER 5 (0 to 31)", up to the limit of its list
abbrev pub n_iter : ℕ → Kind
n_iter most = up_to 5 most

-- "Q_DIFF 2 (0 to 2)"
abbrev pub q_diff : Kind
q_diff = up_to 2 2

-- "class 4", "NC_CDDIFF 0 to 10"
abbrev pub nc_cd_diff : Kind
nc_cd_diff = entry_of 4 cant_figures

-- "class 4", "NC_DIFF 0 to 2"
abbrev pub nc_diff : Kind
nc_diff = up_to 4 2

-- "The class is NC_CDDIFF 0 to 10 where Q_DIFF is 0, else NC_DIFF 0 to 2"
abbrev pub class : ℕ → Kind
class zero = nc_cd_diff
class (suc q) = nc_diff

-- "a change's location that does not rise, is 0, or is at or past L_SP, however large" is refused with 5
abbrev pub d_location : ℕ → ℕ → Kind
d_location last lsp = same 24 16777215 (λ _. 5) (λ x. ltb last x && ltb x lsp)

-- "M_VOLTAGE 4 (0 to 5)"
abbrev pub m_voltage : Kind
m_voltage = entry_of 4 volts

-- "NID_CTRACTION is always sent and is 0 where the voltage is 0"
abbrev pub most_traction : ℕ → ℕ
most_traction zero = 0
most_traction (suc u) = 1023

-- "NID_CTRACTION 10"
abbrev pub nid_c_traction : ℕ → Kind
nid_c_traction u = up_to 10 (most_traction u)

-- "0 for no limit, else amperes + 1, amperes 0 to 10,009"; "1,023 for no limit, else whole part of amperes / 10"
abbrev pub m_current : Kind
m_current = record {
  width = 10;
  largest = 1023;
  highest = 10010;
  allowed = λ v. leb v 1000 || eqb v 1023;
  refusal = λ _. 4;
  lower = λ a. cond (eqb a 0) (some 1023) (when (leb (a - 1) 10009) ((a - 1) / 10));
  raise = λ v. cond (eqb v 1023) 0 (v * 10 + 1);
}

-- ---- "Yard speed restrictions", of a journey's segment

-- "both uses both with start below end", "5, at the end field, for start not below end" and 4 where the end is no number of 24 bits
abbrev pub d_end_after : ℕ → Kind
d_end_after start = same 24 16777215 (λ v. cond (leb v 16777215) 5 4) (λ v. ltb start v && leb v 16777215)

-- "A field the type does not use is 0 in packet and sheet, current 1,023 and 0"
abbrev pub no_current : Kind
no_current = record { width = 10; largest = 1023; highest = 0; allowed = λ v. eqb v 1023; refusal = λ _. 4; lower = λ a. when (eqb a 0) 1023; raise = λ _. 0 }
