-- `sheet_write_segment::row::one` meets its contract.
use mathlib.Core.Path.{ap}
use lib.ListN.{length}
use Rattle.sheet_write_segment.proofs.row.Rows.{single}
use native.Mathlib.Omega.{arith}
use Rattle.sheet_write_segment.proofs.row.one.Goals as goal

pub bounds-room-n : goal.bounds-room-n
bounds-room-n c = omega (arith, ap length (single c.args.v c.requires.0), c.requires.1)

pub returns : goal.returns
returns c = rw (single c.args.v c.requires.0)
