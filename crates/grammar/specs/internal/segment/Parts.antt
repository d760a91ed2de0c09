-- The parts of a segment's tree that a pass takes one by one. Used by contracts of the code; no promise names these.
use Rattle.std.specs.Prelude.{List, [], ◌∷◌, ℕ}
use Rattle.kinds.specs.Kinds.{nid_operational, l_sp, speed, q_diff, class}
use Rattle.format.specs.Format.{Format, field, then}
use Rattle.grammar.specs.internal.rows.Rows.{row}
use Rattle.grammar.specs.segment.Segment.{profile, voltage, current, part, wire_changes}
use Rattle.grammar.specs.declared.segment.Part.{Part}
use Rattle.grammar.specs.declared.segment.Part.TheVariants.{Speeds, Volts, Amperes}

-- "specific entries: Q_DIFF 2 (0 to 2), class 4, V_DIFF 7 (0 to 120)", one of them
abbrev pub entry : Format → Format
entry f = field q_diff λ q. then (class q) (then speed f)

-- what an element of each part begins with
abbrev pub start_of : Part → Format → Format
start_of Speeds f = profile f
start_of Volts f = voltage f
start_of Amperes f = current f

-- the three lists of changes
abbrev pub three_lists : ℕ → Format → Format
three_lists lsp f = part profile 31 lsp (part voltage wire_changes lsp (part current wire_changes lsp f))

-- ---- the fields before the speed profile, in rows: their widths and their largest values

-- NID_ENGINE to N_Packet_Counter, after NID_OPERATIONAL
abbrev pub header_widths : List ℕ
header_widths = 24 ∷ 15 ∷ 17 ∷ 8 ∷ []

abbrev pub header_most : List ℕ
header_most = 16777215 ∷ 32767 ∷ 86399 ∷ 255 ∷ []

-- NID_C, NID_SP and the two versions, before L_SP
abbrev pub identity_widths : List ℕ
identity_widths = 10 ∷ 32 ∷ 8 ∷ 8 ∷ []

abbrev pub identity_most : List ℕ
identity_most = 1023 ∷ 4294967295 ∷ 255 ∷ 255 ∷ []

-- D_EoA_Offset, Q_UTC_Offset and M_SP_Altitude, after L_SP
abbrev pub offset_widths : List ℕ
offset_widths = 24 ∷ 7 ∷ 20 ∷ []

abbrev pub offset_most : List ℕ
offset_most = 16777215 ∷ 112 ∷ 1048575 ∷ []

-- the header's fields after L_PACKET_ATO, as every packet begins
abbrev pub header_rows : Format → Format
header_rows f = then nid_operational (row header_widths header_most f)

-- the body's fields after L_SP
abbrev pub offset_rows : ℕ → Format → Format
offset_rows lsp f = row offset_widths offset_most (three_lists lsp f)

-- the body's fields
abbrev pub body_rows : Format → Format
body_rows f = row identity_widths identity_most (field l_sp λ lsp. offset_rows lsp f)

-- the fields after L_PACKET_ATO, in rows, with whatever follows
abbrev pub segment_rows : Format → Format
segment_rows f = header_rows (body_rows f)
