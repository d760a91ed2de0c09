use mathlib.Core.Path.{refl, sym, subst}
use mathlib.Core.List.{List}
use Prim.Native.Nat.{ℕ}
use native.Mathlib.Omega.{arith}
use Rattle.speed_question.specs.internal.Run.{HeadOf, numbers_as}
use Rattle.speed_question.specs.internal.Asked.{kind_of, lent_of}
use Rattle.speed_question.proofs.Runs.{taken_is, lent_count, in_lent}
use Rattle.steps.specs.internal.Spans.{SegmentKept}
use Rattle.steps.proofs.Kept.{run_keeping_first, run_keeping_next, run_keeping_last}
use Rattle.steps.proofs.spans.run_spans.Goals as goal

pub loop-i-init : goal.loop-i-init
loop-i-init c =
    let r = c.args.run.now in
    run_keeping_first (kind_of r) (lent_of r) c.args.train c.args.last.start c.no_spans-kept.ensures.0 c.no_spans-kept.ensures.1

pub segment_spans-kept-requires : goal.segment_spans-kept-requires
segment_spans-kept-requires c =
    let r = c.args.run.now in
    let f = c.loop-i.invariant.few in
    let h = c.head-head in (
      subst (λ (s : List ℕ). HeadOf (kind_of r) s h.result.lsp h.result.profile) (sym (taken_is r.segments.now c.loop-i.i)) h.ensures,
      record { most = omega (arith, f.most, c.loop-i-test.true, r.few.1); speeds = f.speeds; whole = f.whole },
    )

pub overflow_add-start : goal.overflow_add-start
overflow_add-start c = omega (arith, (c.loop-i.invariant.passing 0).small, c.loop-i-test.true, c.args.run.now.few.1, c.head-head.ensures.small)

pub loop-i-preserved : goal.loop-i-preserved
loop-i-preserved c =
    let r = c.args.run.now in
    let l = c.loop-i in
    run_keeping_next (kind_of r) (lent_of r) c.args.train c.args.last.start l.invariant (in_lent r l.i c.loop-i-test.true) c.requires refl c.head-head.ensures
    (subst (λ (s : List ℕ). SegmentKept c.args.train (numbers_as (kind_of r) s) l.start l.kept.count l.kept c.segment_spans-kept.result) (taken_is r.segments.now l.i) c.segment_spans-kept.ensures)

pub returns : goal.returns
returns c =
    let r = c.args.run.now in
    let n = lent_count r.segments.now in
    run_keeping_last (kind_of r) (lent_of r) c.args.train c.args.last.start c.loop-i.invariant
    (omega (arith, n, c.loop-i-test.false, c.loop-i.auto.i-end)) (omega (arith, n, r.few.1))
