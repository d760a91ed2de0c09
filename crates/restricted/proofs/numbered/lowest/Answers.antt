use mathlib.Core.Path.{subst}
use mathlib.Core.List.{List}
use Prim.Native.Nat.{ℕ, ◌+◌, ◌-◌}
use native.Mathlib.Omega.{arith}
use Rattle.speed_question.specs.Question.{lent}
use Rattle.speed_question.specs.internal.Run.{brought_of, ReadsAs, HeadOf}
use Rattle.restricted.specs.internal.Travelling.{legs_in}
use Rattle.restricted.proofs.Journeys.{at_head, at_constraints}
use Rattle.restricted.proofs.Lent.{lent_length, found, found_accepted, found_last}
use Rattle.restricted.proofs.Travelling.{lowering_first, lowering_before, lowering_next, lowering_last, leg_on}
use Rattle.restricted.proofs.numbered.lowest.Goals as goal

pub overflow_add-y : goal.overflow_add-y
overflow_add-y c = let k = c.requires.1 in omega (arith, k.last.small, k.last.head.small, k.inside)

pub loop-i-init : goal.loop-i-init
loop-i-init c =
    let a = c.args in
    let b = brought_of a.medium in
    lowering_first b b a.count (lent a.count a.first.now a.second.now a.third.now a.fourth.now) a.journey.now a.before c.requires.2

pub head_of-here-requires : goal.head_of-here-requires
head_of-here-requires c =
    let a = c.args in
    let b = brought_of a.medium in
    let few = c.requires.0.1 in
    let k = c.requires.1 in
    let i = c.loop-i.i in
    let h = c.loop-i-test.true in
    let e = c.segment-s.ensures in
    (found_accepted a.first.now a.second.now a.third.now a.fourth.now b a.count i few h e k.each, λ z. found_last a.first.now a.second.now a.third.now a.fourth.now b a.count i few h e z k.last)

pub head-leg-requires : goal.head-leg-requires
head-leg-requires c =
    let a = c.args in
    let b = brought_of a.medium in
    let s = a.journey.now in
    let all = lent a.count a.first.now a.second.now a.third.now a.fourth.now in
    at_head (ReadsAs b s) (legs_in b s) c.loop-i.invariant.along.stand (leg_on b b a.count all s a.before c.requires.2 c.loop-i.i c.loop-i-test.true)

pub overflow_sub-y : goal.overflow_sub-y
overflow_sub-y c =
    let a = c.args in
    let b = brought_of a.medium in
    let all = lent a.count a.first.now a.second.now a.third.now a.fourth.now in
    lowering_before b b a.count all a.journey.now a.before c.loop-i.invariant c.loop-i-test.true c.requires.1.last

pub passed_over-low-requires : goal.passed_over-low-requires
passed_over-low-requires c =
    let a = c.args in
    let b = brought_of a.medium in
    let s = a.journey.now in
    let all = lent a.count a.first.now a.second.now a.third.now a.fourth.now in
    at_constraints (ReadsAs b s) (legs_in b s) c.loop-i.invariant.along.stand (leg_on b b a.count all s a.before c.requires.2 c.loop-i.i c.loop-i-test.true) c.head-leg.ensures

pub overflow_add-start : goal.overflow_add-start
overflow_add-start c = omega (arith, c.loop-i.invariant.small, c.loop-i-test.true, c.requires.0.1, c.head_of-here.ensures.small)

pub next-at-requires : goal.next-at-requires
next-at-requires c =
    let a = c.args in
    let b = brought_of a.medium in
    let s = a.journey.now in
    let all = lent a.count a.first.now a.second.now a.third.now a.fourth.now in
    let r = c.head-leg.ensures in
    (at_constraints (ReadsAs b s) (legs_in b s) c.loop-i.invariant.along.stand (leg_on b b a.count all s a.before c.requires.2 c.loop-i.i c.loop-i-test.true) r, r.few)

pub loop-i-preserved : goal.loop-i-preserved
loop-i-preserved c =
    let a = c.args in
    let b = brought_of a.medium in
    let s = a.journey.now in
    let i = c.loop-i.i in
    let h = c.loop-i-test.true in
    let here = c.head_of-here in
    let all = lent a.count a.first.now a.second.now a.third.now a.fourth.now in
    let few = lent_length a.first.now a.second.now a.third.now a.fourth.now a.count c.requires.0.1 in
    let on = leg_on b b a.count all s a.before c.requires.2 i h in
    let e = found a.first.now a.second.now a.third.now a.fourth.now b a.count i c.requires.0.1 h c.segment-s.ensures in
    let y = a.last.start + a.x - c.loop-i.start in
    let under = lowering_before b b a.count all s a.before c.loop-i.invariant h c.requires.1.last in
    lowering_next b b a.count all s a.before few i h on c.head-leg.ensures y c.loop-i.invariant
    (subst (λ (m : List ℕ). HeadOf b m here.result.lsp here.result.profile) e here.ensures)
    (omega (arith, c.requires.1.last.start_is, under)) c.passed_over-low.ensures c.next-at.ensures

pub returns : goal.returns
returns c =
    let a = c.args in
    let b = brought_of a.medium in
    let all = lent a.count a.first.now a.second.now a.third.now a.fourth.now in
    lowering_last b b a.count all a.journey.now a.before (lent_length a.first.now a.second.now a.third.now a.fourth.now a.count c.requires.0.1) c.loop-i.invariant c.loop-i-test.false
