use mathlib.Core.Path.{refl, ap, ◌∙◌}
use native.Mathlib.Omega.{arith}
use Rattle.speed.specs.Speed.{limited}
use Rattle.steps.proofs.Places.{steps_give, looked_first, looked_last, looked_wrong, looked_next}
use Rattle.steps.proofs.looking.first_wrong.Goals as goal

pub loop-x-init : goal.loop-x-init
loop-x-init c = looked_first c.args.train c.args.spans.now c.args.from c.args.starts.now c.args.speeds.now c.args.lsp c.requires

pub gone-first-requires : goal.gone-first-requires
gone-first-requires c =
    (c.loop-x.invariant.few, c.loop-x.invariant.gone)

pub stretch_from-here-requires : goal.stretch_from-here-requires
stretch_from-here-requires c =
    (c.gone-first.ensures.0, c.gone-first.ensures.1, omega (arith, c.loop-x-test.true))

pub overflow_sub-until : goal.overflow_sub-until
overflow_sub-until c = omega (arith, c.stretch_from-here.ensures.past)

pub overflow_cast-until-in-loop-x : goal.overflow_cast-until-in-loop-x
overflow_cast-until-in-loop-x c =
    omega (arith, c.stretch_from-here.ensures.most, c.ranges.lsp)

pub compare-found-requires : goal.compare-found-requires
compare-found-requires c =
    (steps_give c.args.lsp c.args.starts.now c.args.speeds.now c.requires, c.loop-x.invariant.at, omega (arith, c.stretch_from-here.ensures.past))

pub returns-then-x-until : goal.returns-then-x-until
returns-then-x-until c =
    let a = c.args in
    looked_wrong a.train a.spans.now a.from a.starts.now a.speeds.now a.lsp c.loop-x.invariant c.stretch_from-here.ensures (c.limited-ours.ensures ∙ ap (limited a.train) c.permitted.ensures) refl c.compare-found.ensures c.if-x-until.true

pub loop-x-smaller : goal.loop-x-smaller
loop-x-smaller c =
    omega (arith, c.if-x-until.false, c.stretch_from-here.ensures.past, c.loop-x-test.true)

pub loop-x-preserved : goal.loop-x-preserved
loop-x-preserved c =
    let a = c.args in
    looked_next a.train a.spans.now a.from a.starts.now a.speeds.now a.lsp c.loop-x.invariant c.stretch_from-here.ensures (c.limited-ours.ensures ∙ ap (limited a.train) c.permitted.ensures) refl c.compare-found.ensures c.gone-first.ensures.0 c.gone-first.ensures.1 c.if-x-until.false

pub returns : goal.returns
returns c =
    let a = c.args in
    looked_last a.train a.spans.now a.from a.starts.now a.speeds.now a.lsp c.loop-x.invariant c.loop-x-test.false
