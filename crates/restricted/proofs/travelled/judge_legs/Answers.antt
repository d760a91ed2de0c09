use mathlib.Core.Path.{refl, sym, subst}
use mathlib.Core.List.{List}
use Prim.Native.Nat.{ℕ}
use lib.ListN.{length}
use Rattle.std.proofs.lemmas.Result.{err_from_is_err_and}
use Rattle.kinds.specs.Refusals.{refusal_number}
use Rattle.speed_question.specs.internal.Run.{brought_as, numbers_as, HeadOf}
use Rattle.speed_question.specs.internal.Asked.{kind_of, lent_of}
use Rattle.speed_question.proofs.Runs.{lent_count, taken_is, taken_accepted}
use Rattle.restricted.specs.internal.Travelling.{LegJudged}
use Rattle.restricted.specs.internal.Travelled.{ReadsIn, legs_of}
use Rattle.restricted.proofs.Answers.{numbered_lem}
use Rattle.restricted.proofs.Journeys.{at_head, at_constraints}
use Rattle.restricted.proofs.Travelling.{judging_refused, judging_next, leg_on}
use Rattle.restricted.proofs.travelled.judge_legs.Goals as goal

pub head-leg-requires : goal.head-leg-requires
head-leg-requires c =
    let j = c.args.journey.now in
    let r = c.args.run.now in
    at_head (ReadsIn j) (legs_of j) c.loop-i.invariant.along.stand (leg_on (kind_of r) (brought_as j.medium) (length r.segments.now) (lent_of r) j.bytes.now c.args.before c.requires.1 c.loop-i.i c.loop-i-test.true)

pub judge_leg-requires : goal.judge_leg-requires
judge_leg-requires c =
    let j = c.args.journey.now in
    let r = c.args.run.now in
    let i = c.loop-i.i in
    let h = c.head-here in (
      taken_accepted r i c.loop-i-test.true,
      subst (λ (s : List ℕ). HeadOf (kind_of r) s h.result.lsp h.result.profile) (sym (taken_is r.segments.now i)) h.ensures,
      at_constraints (ReadsIn j) (legs_of j) c.loop-i.invariant.along.stand (leg_on (kind_of r) (brought_as j.medium) (length r.segments.now) (lent_of r) j.bytes.now c.args.before c.requires.1 i c.loop-i-test.true) c.head-leg.ensures,
    )

pub returns-in_err-judge_leg : goal.returns-in_err-judge_leg
returns-in_err-judge_leg c =
    let j = c.args.journey.now in
    let r = c.args.run.now in
    let i = c.loop-i.i in
    let p = err_from_is_err_and c.from_residual.result c.from_residual.ensures.1 in
    let few = sym (lent_count r.segments.now) in
    let on = leg_on (kind_of r) (brought_as j.medium) (length r.segments.now) (lent_of r) j.bytes.now c.args.before c.requires.1 i c.loop-i-test.true in
    rw (p.1, p.2)
    (judging_refused (kind_of r) (brought_as j.medium) (length r.segments.now) (lent_of r) j.bytes.now c.args.before few i c.loop-i-test.true on c.head-leg.ensures c.loop-i.invariant
    (subst (λ (s : List ℕ). LegJudged (ReadsIn j) (numbers_as (kind_of r) s) c.head-leg.result (refusal_number c.in_err-judge_leg.field-0.0)) (taken_is r.segments.now i) c.in_err-judge_leg.ensures)
    (numbered_lem _))

pub next-at-requires : goal.next-at-requires
next-at-requires c =
    let j = c.args.journey.now in
    let r = c.args.run.now in
    let l = c.head-leg.ensures in
    (at_constraints (ReadsIn j) (legs_of j) c.loop-i.invariant.along.stand (leg_on (kind_of r) (brought_as j.medium) (length r.segments.now) (lent_of r) j.bytes.now c.args.before c.requires.1 c.loop-i.i c.loop-i-test.true) l, l.few)

pub loop-i-preserved : goal.loop-i-preserved
loop-i-preserved c =
    let j = c.args.journey.now in
    let r = c.args.run.now in
    let i = c.loop-i.i in
    let few = sym (lent_count r.segments.now) in
    let on = leg_on (kind_of r) (brought_as j.medium) (length r.segments.now) (lent_of r) j.bytes.now c.args.before c.requires.1 i c.loop-i-test.true in
    judging_next (kind_of r) (brought_as j.medium) (length r.segments.now) (lent_of r) j.bytes.now c.args.before few i c.loop-i-test.true on c.head-leg.ensures c.loop-i.invariant
    (subst (λ (s : List ℕ). LegJudged (ReadsIn j) (numbers_as (kind_of r) s) c.head-leg.result 0) (taken_is r.segments.now i) c.in_ok-judge_leg.ensures) refl c.next-at.ensures
