-- `restricted::accepted::Journey::find` meets its contract.
use native.Mathlib.Omega.{arith}
use Rattle.restricted.specs.internal.Travelled.{ReadsIn, legs_of}
use Rattle.restricted.proofs.Journeys.{at_head, at_constraints, at_next}
use Rattle.restricted.proofs.accepted.Journey.find.Goals as goal

pub head-requires : goal.head-requires
head-requires c =
    let j = c.args.self.now in
    at_head (ReadsIn j) (legs_of j) {i = c.loop.counter} c.loop.invariant (omega (arith, c.loop-test.true, c.requires.1))

pub next-at-requires : goal.next-at-requires
next-at-requires c =
    let j = c.args.self.now in
    let h = c.head.ensures in
    (at_constraints (ReadsIn j) (legs_of j) {i = c.loop.counter} c.loop.invariant (omega (arith, c.loop-test.true, c.requires.1)) h, h.few)

pub loop-preserved : goal.loop-preserved
loop-preserved c =
    let j = c.args.self.now in
    at_next (ReadsIn j) (legs_of j) {i = c.loop.counter} c.loop.invariant (omega (arith, c.loop-test.true, c.requires.1)) c.head.ensures c.next-at.ensures
