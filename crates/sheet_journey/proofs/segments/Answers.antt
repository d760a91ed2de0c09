use Rattle.std.proofs.Common.{arith}
use Rattle.grammar.specs.journey.Journey.{journey_segment, constraints}
use Rattle.verdict.proofs.Exits.{exit}
use Rattle.sheet_fields.proofs.Loops.{count_on, count_off, count_end}
use Rattle.sheet_journey.proofs.segments.Goals as goal

pub returns-in_err-spot : goal.returns-in_err-spot
returns-in_err-spot c = rw (exit c.from_residual.ensures.1) (count_off (journey_segment constraints) c.loop.invariant c.loop-test.true c.in_err-spot.ensures)

pub loop-preserved : goal.loop-preserved
loop-preserved c = count_on (journey_segment constraints) c.loop.invariant c.loop-test.true c.in_ok-spot.ensures

pub returns : goal.returns
returns c = count_end (journey_segment constraints) c.loop.invariant (omega arith)
