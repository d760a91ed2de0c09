-- `sheet_write_journey::rows::head` meets its contract.
use mathlib.Core.Path.{refl}
use Rattle.sheet_write_segment.specs.internal.head.Widths.{header_fields}
use Rattle.sheet_write_segment.proofs.row.Rows.{row_first, row_after, row_both}
use Rattle.sheet_write_journey.proofs.rows.head.Goals as goal

pub header-status-requires : goal.header-status-requires
header-status-requires c = row_first _ _ header_fields _ _ c.requires

pub counts-requires : goal.counts-requires
counts-requires c = row_after _ _ header_fields _ _ 120 refl c.header-status.ensures c.requires

pub returns : goal.returns
returns c = (row_both _ _ header_fields _ _ 120 refl c.header-status.ensures c.counts.ensures.0, c.counts.ensures.1)
