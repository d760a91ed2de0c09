-- `sheet_fields::row::row` meets its contract.
use Rattle.std.proofs.Common.{length, drop}
use Rattle.grammar.specs.internal.rows.Rows as rows
use Rattle.format.specs.internal.Ways.{Left}
use Rattle.sheet_fields.specs.internal.Judging.{judge}
use Rattle.sheet_fields.proofs.row.row.Given as goal

abbrev pub invariant-loop-width : goal.invariant-loop-width
invariant-loop-width l = let k = length l.yielded in Left (judge l.s) (rows.row l.widths l.most) (rows.row (drop k l.widths) (drop k l.most)) l.fn.spot.at l.fn.spot.n l.spot.at l.spot.n
