-- The fields of a segment's packet before its lists. Used by contracts of the code; no promise names these.
use Rattle.std.specs.Prelude.{ℕ}
use Rattle.kinds.specs.Kinds.{l_sp}
use Rattle.format.specs.Format.{Format, field}
use Rattle.grammar.specs.internal.rows.Rows.{row}
use Rattle.grammar.specs.internal.segment.Parts.{header_rows, identity_widths, identity_most, offset_widths, offset_most}

-- the body's fields up to M_SP_Altitude, and what depends on L_SP
abbrev pub body_head : (ℕ → Format) → Format
body_head next = row identity_widths identity_most (field l_sp λ lsp. row offset_widths offset_most (next lsp))

-- NID_OPERATIONAL to M_SP_Altitude, and what depends on L_SP
abbrev pub head_part : (ℕ → Format) → Format
head_part next = header_rows (body_head next)
