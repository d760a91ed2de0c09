-- `sheet_write_segment::row::number` meets its contract.
use Rattle.sheet_write_segment.proofs.row.Rows.{alone_fits, alone_copied}
use Rattle.sheet_write_segment.proofs.row.number.Goals as goal

pub put_number-requires : goal.put_number-requires
put_number-requires c = alone_fits _ _ _ _ c.requires.0 c.read_window-v.ensures

pub returns : goal.returns
returns c = alone_copied _ _ _ _ c.requires.0 c.read_window-v.ensures c.put_number.ensures
