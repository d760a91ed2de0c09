use native.Mathlib.Nat.{lt_of_lt_of_le}
use lib.Pow.{pow_mono}
use Rattle.packet_write_segment.proofs.elements.Writing.{at_small}
use Rattle.packet_write_segment.proofs.row.Pieces.{gathers_there, joined_small, gathers_more, gathered_small, gathers_wrote}
use native.Mathlib.Omega.{arith}
use Rattle.packet_write_segment.proofs.row.piece.Goals as goal

pub number-a-requires : goal.number-a-requires
number-a-requires c = gathers_there c.loop-width.invariant c.loop-width-test.true

pub overflow_add-bits : goal.overflow_add-bits
overflow_add-bits c = omega (arith, joined_small c.loop-width.invariant c.loop-width-test.true c.number-a.ensures)

pub loop-width-preserved : goal.loop-width-preserved
loop-width-preserved c = gathers_more c.loop-width.invariant c.loop-width-test.true c.number-a.ensures

pub overflow_cast-bits-2 : goal.overflow_cast-bits-2
overflow_cast-bits-2 c =
    let g = c.loop-width.invariant in
    record { fits = lt_of_lt_of_le (gathered_small g c.loop-width-test.false) (pow_mono g.most) }

pub put-requires : goal.put-requires
put-requires c =
    let g = c.loop-width.invariant in
    (g.some, g.most, gathered_small g c.loop-width-test.false, at_small g.ready)

pub returns : goal.returns
returns c = gathers_wrote c.loop-width.invariant c.loop-width-test.false c.put.ensures
