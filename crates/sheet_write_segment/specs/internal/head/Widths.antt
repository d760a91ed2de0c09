-- The widths of the fields before a segment's lists, which stand in a row. Used by contracts of the code; no promise names these.
use Rattle.std.specs.Prelude.{List, ◌∷◌, ◌++◌, ℕ}
use Rattle.grammar.specs.internal.segment.Parts.{header_widths, identity_widths, offset_widths}

-- NID_OPERATIONAL to N_Packet_Counter, as every packet begins
abbrev pub header_fields : List ℕ
header_fields = 32 ∷ header_widths

-- L_SP to M_SP_Altitude; and all fields from NID_OPERATIONAL to M_SP_Altitude
abbrev pub length_widths : List ℕ
length_widths = 24 ∷ offset_widths

abbrev pub head_widths : List ℕ
head_widths = header_fields ++ identity_widths ++ length_widths
