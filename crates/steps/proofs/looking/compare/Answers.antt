use native.Mathlib.Omega.{arith}
use Rattle.steps.proofs.Places.{comparing_first, comparing_wrong, comparing_last, comparing_more, comparing_next}
use Rattle.steps.proofs.looking.compare.Goals as goal

pub loop-place-init : goal.loop-place-init
loop-place-init c =
    comparing_first c.args.starts.now c.args.speeds.now c.args.x c.args.until c.args.ours c.requires.1 c.requires.2

pub bounds-speeds-step : goal.bounds-speeds-step
bounds-speeds-step c = omega (arith, c.loop-place.invariant.at.inside, c.requires.0.equal)

pub returns-then-speeds-step : goal.returns-then-speeds-step
returns-then-speeds-step c =
    comparing_wrong c.args.starts.now c.args.speeds.now c.args.x c.args.until c.args.ours c.requires.0 c.loop-place.invariant c.loop-place-test.true c.if-speeds-step.true

pub next_step-next-requires : goal.next_step-next-requires
next_step-next-requires c = c.loop-place.invariant.at.inside

pub loop-place-smaller : goal.loop-place-smaller
loop-place-smaller c =
    let h = c.loop-place-test.true in
    omega (arith, h, comparing_more c.args.starts.now c.args.speeds.now c.args.x c.args.until c.args.ours c.requires.0 c.loop-place.invariant h c.next_step-next.ensures)

pub loop-place-preserved : goal.loop-place-preserved
loop-place-preserved c =
    comparing_next c.args.starts.now c.args.speeds.now c.args.x c.args.until c.args.ours c.requires.0 c.loop-place.invariant c.loop-place-test.true c.if-speeds-step.false c.next_step-next.ensures

pub returns : goal.returns
returns c =
    comparing_last c.args.starts.now c.args.speeds.now c.args.x c.args.until c.args.ours c.requires.0 c.loop-place.invariant c.loop-place-test.false
