use Rattle.std.proofs.Common.{arith}
use Rattle.grammar.specs.journey.Journey.{timing_point}
use Rattle.verdict.proofs.Exits.{exit}
use Rattle.sheet_fields.proofs.Loops.{count_on, count_off, count_end}
use Rattle.sheet_journey.proofs.point.points.Goals as goal

pub returns-in_err-spot : goal.returns-in_err-spot
returns-in_err-spot c = rw (exit c.from_residual.ensures.1) (count_off timing_point c.loop.invariant c.loop-test.true c.in_err-spot.ensures)

pub loop-preserved : goal.loop-preserved
loop-preserved c = count_on timing_point c.loop.invariant c.loop-test.true c.in_ok-spot.ensures

pub returns : goal.returns
returns c = count_end timing_point c.loop.invariant (omega arith)
