-- `packet_fields::row::row` meets its contract.
use mathlib.Core.Path.{◌≡◌}
use mathlib.Core.Bool.{true}
use Rattle.std.specs.Iterator.Adapters.{zip_first, zip_second}
use Rattle.std.specs.Slice.Iter.{iter_rest}
use Rattle.format.specs.internal.Ways.{Left}
use Rattle.grammar.specs.internal.rows.Rows.{row, fits}
use Rattle.packet_fields.specs.internal.Judging.{judge}
use Rattle.packet_fields.proofs.row.row.Given as goal

abbrev pub invariant-loop-width : goal.invariant-loop-width
invariant-loop-width l =
    let ws = iter_rest (zip_first l.width-iterator) in
    let ms = iter_rest (zip_second l.width-iterator) in
    Left (judge l.s l.stop) (row l.widths l.most) (row ws ms) l.fn.spot.at l.fn.spot.n l.next.at l.next.n × (fits ws ms ≡ true)
