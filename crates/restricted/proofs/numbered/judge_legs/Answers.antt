use mathlib.Core.Path.{refl, subst}
use mathlib.Core.List.{List}
use Prim.Native.Nat.{ℕ}
use Rattle.std.proofs.lemmas.Result.{err_from_is_err_and}
use Rattle.kinds.specs.Refusals.{refusal_number}
use Rattle.speed_question.specs.Question.{lent}
use Rattle.speed_question.specs.internal.Run.{brought_of, numbers_as, ReadsAs}
use Rattle.restricted.specs.internal.Travelling.{legs_in, LegJudged}
use Rattle.restricted.proofs.Answers.{numbered_lem}
use Rattle.restricted.proofs.Journeys.{at_head, at_constraints}
use Rattle.restricted.proofs.Lent.{lent_length, found, found_accepted, found_last}
use Rattle.restricted.proofs.Travelling.{judging_first, judging_refused, judging_next, judging_last, leg_on}
use Rattle.restricted.proofs.numbered.judge_legs.Goals as goal

pub loop-i-init : goal.loop-i-init
loop-i-init c =
    let a = c.args in
    let b = brought_of a.medium in
    judging_first b b a.count (lent a.count a.first.now a.second.now a.third.now a.fourth.now) a.journey.now a.before c.requires.3

pub head_of-here-requires : goal.head_of-here-requires
head_of-here-requires c =
    let a = c.args in
    let b = brought_of a.medium in
    let few = c.requires.0.1 in
    let i = c.loop-i.i in
    let h = c.loop-i-test.true in
    let e = c.segment-s.ensures in
    (found_accepted a.first.now a.second.now a.third.now a.fourth.now b a.count i few h e c.requires.1, λ z. found_last a.first.now a.second.now a.third.now a.fourth.now b a.count i few h e z c.requires.2)

pub head-leg-requires : goal.head-leg-requires
head-leg-requires c =
    let a = c.args in
    let b = brought_of a.medium in
    let s = a.journey.now in
    let all = lent a.count a.first.now a.second.now a.third.now a.fourth.now in
    at_head (ReadsAs b s) (legs_in b s) c.loop-i.invariant.along.stand (leg_on b b a.count all s a.before c.requires.3 c.loop-i.i c.loop-i-test.true)

pub judge_leg-requires : goal.judge_leg-requires
judge_leg-requires c =
    let a = c.args in
    let b = brought_of a.medium in
    let s = a.journey.now in
    let i = c.loop-i.i in
    let h = c.loop-i-test.true in
    let all = lent a.count a.first.now a.second.now a.third.now a.fourth.now in (
      found_accepted a.first.now a.second.now a.third.now a.fourth.now b a.count i c.requires.0.1 h c.segment-s.ensures c.requires.1,
      c.head_of-here.ensures,
      at_constraints (ReadsAs b s) (legs_in b s) c.loop-i.invariant.along.stand (leg_on b b a.count all s a.before c.requires.3 i h) c.head-leg.ensures,
    )

pub returns-in_err-judge_leg : goal.returns-in_err-judge_leg
returns-in_err-judge_leg c =
    let a = c.args in
    let b = brought_of a.medium in
    let s = a.journey.now in
    let i = c.loop-i.i in
    let h = c.loop-i-test.true in
    let all = lent a.count a.first.now a.second.now a.third.now a.fourth.now in
    let few = lent_length a.first.now a.second.now a.third.now a.fourth.now a.count c.requires.0.1 in
    let p = err_from_is_err_and c.from_residual.result c.from_residual.ensures.1 in
    let on = leg_on b b a.count all s a.before c.requires.3 i h in
    let e = found a.first.now a.second.now a.third.now a.fourth.now b a.count i c.requires.0.1 h c.segment-s.ensures in
    rw (p.1, p.2)
    (judging_refused b b a.count all s a.before few i h on c.head-leg.ensures c.loop-i.invariant
    (subst (λ (m : List ℕ). LegJudged (ReadsAs b s) (numbers_as b m) c.head-leg.result (refusal_number c.in_err-judge_leg.field-0.0)) e c.in_err-judge_leg.ensures)
    (numbered_lem _))

pub next-at-requires : goal.next-at-requires
next-at-requires c =
    let a = c.args in
    let b = brought_of a.medium in
    let s = a.journey.now in
    let all = lent a.count a.first.now a.second.now a.third.now a.fourth.now in
    let r = c.head-leg.ensures in
    (at_constraints (ReadsAs b s) (legs_in b s) c.loop-i.invariant.along.stand (leg_on b b a.count all s a.before c.requires.3 c.loop-i.i c.loop-i-test.true) r, r.few)

pub loop-i-preserved : goal.loop-i-preserved
loop-i-preserved c =
    let a = c.args in
    let b = brought_of a.medium in
    let s = a.journey.now in
    let i = c.loop-i.i in
    let h = c.loop-i-test.true in
    let all = lent a.count a.first.now a.second.now a.third.now a.fourth.now in
    let few = lent_length a.first.now a.second.now a.third.now a.fourth.now a.count c.requires.0.1 in
    let on = leg_on b b a.count all s a.before c.requires.3 i h in
    let e = found a.first.now a.second.now a.third.now a.fourth.now b a.count i c.requires.0.1 h c.segment-s.ensures in
    judging_next b b a.count all s a.before few i h on c.head-leg.ensures c.loop-i.invariant
    (subst (λ (m : List ℕ). LegJudged (ReadsAs b s) (numbers_as b m) c.head-leg.result 0) e c.in_ok-judge_leg.ensures) refl c.next-at.ensures

pub returns : goal.returns
returns c =
    let a = c.args in
    let b = brought_of a.medium in
    let all = lent a.count a.first.now a.second.now a.third.now a.fourth.now in
    judging_last b b a.count all a.journey.now a.before (lent_length a.first.now a.second.now a.third.now a.fourth.now a.count c.requires.0.1) c.loop-i.invariant c.loop-i-test.false
