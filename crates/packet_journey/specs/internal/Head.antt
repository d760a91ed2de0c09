-- The fields of a journey's segment before its timing points. Used by contracts of the code; no promise names these.
use Rattle.std.specs.Prelude.{ℕ}
use Rattle.kinds.specs.Kinds.{n_iter}
use Rattle.format.specs.Format.{Format, field}
use Rattle.grammar.specs.internal.rows.Rows.{row}
use Rattle.grammar.specs.internal.journey.Parts.{segment_widths, segment_most}

-- NID_C to Q_SP_DIR, and what depends on the count of the timing points
abbrev pub segment_head : (ℕ → Format) → Format
segment_head next = row segment_widths segment_most (field (n_iter 31) next)
