use mathlib.Core.Path.{sym}
use Prim.Native.Nat.{◌+◌, ◌-◌}
use native.Mathlib.Omega.{arith}
use lib.ListN.{length}
use Rattle.speed_question.specs.internal.Run.{brought_as}
use Rattle.speed_question.specs.internal.Asked.{kind_of, lent_of}
use Rattle.speed_question.proofs.Runs.{lent_count}
use Rattle.restricted.specs.internal.Travelled.{ReadsIn, legs_of}
use Rattle.restricted.proofs.Journeys.{at_head, at_constraints}
use Rattle.restricted.proofs.Travelling.{lowering_before, lowering_next, lowering_last, leg_on}
use Rattle.restricted.proofs.travelled.lowest.Goals as goal

pub head-leg-requires : goal.head-leg-requires
head-leg-requires c =
    let j = c.args.journey.now in
    let r = c.args.run.now in
    at_head (ReadsIn j) (legs_of j) c.loop-i.invariant.along.stand (leg_on (kind_of r) (brought_as j.medium) (length r.segments.now) (lent_of r) j.bytes.now c.args.before c.requires.2 c.loop-i.i c.loop-i-test.true)

pub passed_over-low-requires : goal.passed_over-low-requires
passed_over-low-requires c =
    let j = c.args.journey.now in
    let r = c.args.run.now in
    at_constraints (ReadsIn j) (legs_of j) c.loop-i.invariant.along.stand (leg_on (kind_of r) (brought_as j.medium) (length r.segments.now) (lent_of r) j.bytes.now c.args.before c.requires.2 c.loop-i.i c.loop-i-test.true) c.head-leg.ensures

pub next-at-requires : goal.next-at-requires
next-at-requires c =
    let j = c.args.journey.now in
    let r = c.args.run.now in
    let l = c.head-leg.ensures in
    (at_constraints (ReadsIn j) (legs_of j) c.loop-i.invariant.along.stand (leg_on (kind_of r) (brought_as j.medium) (length r.segments.now) (lent_of r) j.bytes.now c.args.before c.requires.2 c.loop-i.i c.loop-i-test.true) l, l.few)

pub overflow_sub-y : goal.overflow_sub-y
overflow_sub-y c =
    let j = c.args.journey.now in
    let r = c.args.run.now in
    lowering_before (kind_of r) (brought_as j.medium) (length r.segments.now) (lent_of r) j.bytes.now c.args.before c.loop-i.invariant c.loop-i-test.true c.requires.0

pub loop-i-preserved : goal.loop-i-preserved
loop-i-preserved c =
    let j = c.args.journey.now in
    let r = c.args.run.now in
    let i = c.loop-i.i in
    let h = c.loop-i-test.true in
    let y = c.args.last.start + c.args.x - c.loop-i.start in
    let under = lowering_before (kind_of r) (brought_as j.medium) (length r.segments.now) (lent_of r) j.bytes.now c.args.before c.loop-i.invariant h c.requires.0 in
    lowering_next (kind_of r) (brought_as j.medium) (length r.segments.now) (lent_of r) j.bytes.now c.args.before (sym (lent_count r.segments.now)) i h (leg_on (kind_of r) (brought_as j.medium) (length r.segments.now) (lent_of r) j.bytes.now c.args.before c.requires.2 i c.loop-i-test.true) c.head-leg.ensures y c.loop-i.invariant
    c.head-here.ensures (omega (arith, c.requires.0.start_is, under)) c.passed_over-low.ensures c.next-at.ensures

pub returns : goal.returns
returns c =
    let j = c.args.journey.now in
    let r = c.args.run.now in
    lowering_last (kind_of r) (brought_as j.medium) (length r.segments.now) (lent_of r) j.bytes.now c.args.before (sym (lent_count r.segments.now)) c.loop-i.invariant c.loop-i-test.false
