use Rattle.std.proofs.Common.{arith}
use Rattle.grammar.specs.journey.Journey.{temporary_constraint}
use Rattle.verdict.proofs.Exits.{exit}
use Rattle.sheet_fields.proofs.Loops.{count_on, count_off, count_end}
use Rattle.sheet_journey.proofs.constraint.constraints.Goals as goal

pub returns-in_err-spot : goal.returns-in_err-spot
returns-in_err-spot c = rw (exit c.from_residual.ensures.1) (count_off temporary_constraint c.loop.invariant c.loop-test.true c.in_err-spot.ensures)

pub loop-preserved : goal.loop-preserved
loop-preserved c = count_on temporary_constraint c.loop.invariant c.loop-test.true c.in_ok-spot.ensures

pub returns : goal.returns
returns c = count_end temporary_constraint c.loop.invariant (omega arith)
