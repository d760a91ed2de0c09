-- `verdict::frame::first_one` meets its contract: the first 1 and the bits from it on make up the packet.
use Rattle.std.proofs.Common.{arith}
use lib.Count.{leading_le}
use Rattle.verdict.proofs.frame.Framing.{leading_place}
use Rattle.verdict.proofs.frame.first_one.Goals as goal

pub overflow_sub-result : goal.overflow_sub-result
overflow_sub-result c = omega (arith, leading_le 32 c.read_field-padding.result)

pub overflow_sub-result-2 : goal.overflow_sub-result-2
overflow_sub-result-2 c = omega (arith, leading_place c.args.s.now c.args.stop (omega arith) (omega arith) c.read_field-padding.result c.read_field-padding.ensures)

pub returns : goal.returns
returns c = omega (arith, leading_place c.args.s.now c.args.stop (omega arith) (omega arith) c.read_field-padding.result c.read_field-padding.ensures)
