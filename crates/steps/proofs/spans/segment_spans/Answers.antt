use native.Mathlib.Omega.{arith}
use Rattle.speed_element.proofs.Lowest.{until_most}
use Rattle.speed_question.specs.internal.Run.{brought_as, ReadsAs}
use Rattle.steps.proofs.Kept.{keeping_first, keeping_last, keeping_opens, keeping_room, keeping_next}
use Rattle.steps.proofs.spans.segment_spans.Goals as goal

pub loop-left-init : goal.loop-left-init
loop-left-init c =
    keeping_first (ReadsAs (brought_as c.args.medium) c.args.s.now) c.args.train c.args.head.lsp c.args.start _ c.args.before c.requires.0 c.first-begun.ensures c.requires.1

pub next-n-requires : goal.next-n-requires
next-n-requires c = ((c.loop-left.invariant.ending 0).more c.loop-left-test.true).readable

pub bounds-kept-kept : goal.bounds-kept-kept
bounds-kept-kept c = keeping_room _ _ _ _ _ _ c.loop-left.invariant c.loop-left-test.true c.requires.1.most

pub overflow_add-kept-in-loop-left : goal.overflow_add-kept-in-loop-left
overflow_add-kept-in-loop-left c =
    omega (arith, c.until.ensures, until_most c.args.train c.loop-left.«open» c.next-n.result.end)

pub speed_of-requires : goal.speed_of-requires
speed_of-requires c = keeping_opens _ _ _ _ _ _ c.loop-left.invariant c.loop-left-test.true

pub loop-left-preserved : goal.loop-left-preserved
loop-left-preserved c =
    keeping_next _ _ _ _ _ _ c.loop-left.invariant c.loop-left-test.true c.requires.1.most
    c.next-n.ensures c.until.ensures c.speed_of.ensures

pub returns : goal.returns
returns c =
    keeping_last (ReadsAs (brought_as c.args.medium) c.args.s.now) c.args.train c.args.head.lsp c.args.start _ c.args.before c.requires.0 c.first-begun.ensures
    c.loop-left.invariant (omega (arith, c.loop-left-test.false))

pub first-begun-requires : goal.first-begun-requires
first-begun-requires c = c.requires.0

pub overflow_sub-left : goal.overflow_sub-left
overflow_sub-left c = omega (arith, c.loop-left-test.true)

pub loop-left-smaller : goal.loop-left-smaller
loop-left-smaller c = omega (arith, c.loop-left-test.true)
