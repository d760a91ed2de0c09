use native.Mathlib.Omega.{arith}
use Rattle.speed_question.specs.internal.Asked.{kind_of, lent_of}
use Rattle.speed_question.proofs.Runs.{finding_next, finding_last, lent_count, some_lent, in_lent, taken_accepted, taken_head}
use Rattle.speed_question.proofs.run.Run.last_segment.Goals as goal

pub head-head-requires : goal.head-head-requires
head-head-requires c = taken_accepted c.args.self.now c.loop-segment.segment-index c.loop-segment-test.true

pub loop-segment-preserved : goal.loop-segment-preserved
loop-segment-preserved c =
    let r = c.args.self.now in
    let i = c.loop-segment.segment-index in
    finding_next (kind_of r) (lent_of r) i (in_lent r i c.loop-segment-test.true) c.loop-segment.invariant (taken_head r i c.head-head.ensures)

pub returns : goal.returns
returns c =
    let r = c.args.self.now in
    let n = lent_count r.segments.now in
    finding_last (kind_of r) (lent_of r) (some_lent r) c.loop-segment.invariant
    (omega (arith, n, c.loop-segment-test.false, c.loop-segment.auto.segment-index-end)) (omega (arith, n, r.few.1))
