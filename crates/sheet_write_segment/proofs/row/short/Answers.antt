-- `sheet_write_segment::row::short` meets its contract.
use native.Mathlib.Omega.{arith}
use Rattle.bits.proofs.Fields.{field_small}
use Rattle.sheet_write_segment.proofs.row.Rows.{alone_fits, alone_copied}
use Rattle.sheet_write_segment.proofs.row.short.Goals as goal

pub put_short-requires : goal.put_short-requires
put_short-requires c =
    let a = c.args in
    (omega (arith, field_small a.packet.now a.at a.width 14 c.requires.2, c.read_window-v.ensures), alone_fits _ _ _ _ c.requires.0 c.read_window-v.ensures)

pub returns : goal.returns
returns c = alone_copied _ _ _ _ c.requires.0 c.read_window-v.ensures c.put_short.ensures
