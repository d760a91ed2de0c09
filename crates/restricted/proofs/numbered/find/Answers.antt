-- `restricted::numbered::find` meets its contract.
use native.Mathlib.Omega.{arith}
use Rattle.speed_question.specs.internal.Run.{brought_of, ReadsAs}
use Rattle.restricted.specs.internal.Travelling.{legs_in}
use Rattle.restricted.proofs.Journeys.{at_head, at_constraints, at_next}
use Rattle.restricted.proofs.numbered.find.Goals as goal

pub head-requires : goal.head-requires
head-requires c =
    let b = brought_of c.args.medium in
    let s = c.args.journey.now in
    at_head (ReadsAs b s) (legs_in b s) {i = c.loop.counter} c.loop.invariant (omega (arith, c.loop-test.true, c.requires.1))

pub next-at-requires : goal.next-at-requires
next-at-requires c =
    let b = brought_of c.args.medium in
    let s = c.args.journey.now in
    let h = c.head.ensures in
    (at_constraints (ReadsAs b s) (legs_in b s) {i = c.loop.counter} c.loop.invariant (omega (arith, c.loop-test.true, c.requires.1)) h, h.few)

pub loop-preserved : goal.loop-preserved
loop-preserved c =
    let b = brought_of c.args.medium in
    let s = c.args.journey.now in
    at_next (ReadsAs b s) (legs_in b s) {i = c.loop.counter} c.loop.invariant (omega (arith, c.loop-test.true, c.requires.1)) c.head.ensures c.next-at.ensures
