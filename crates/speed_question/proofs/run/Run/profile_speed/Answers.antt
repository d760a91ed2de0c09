use mathlib.Core.Path.{◌∙◌, sym, subst}
use mathlib.Core.List.{List}
use Prim.Native.Nat.{ℕ, ◌+◌, ◌-◌}
use native.Mathlib.Omega.{arith}
use Rattle.speed_element.specs.internal.Passing.{Passed}
use Rattle.speed_question.specs.internal.Run.{HeadOf, numbers_as}
use Rattle.speed_question.specs.internal.Asked.{kind_of, lent_of}
use Rattle.speed_question.proofs.Runs.{passing_before, passing_next, passing_last, taken_is, lent_count, in_lent, taken_accepted}
use Rattle.speed_question.proofs.run.Run.profile_speed.Goals as goal

pub passed-held-requires : goal.passed-held-requires
passed-held-requires c =
    let r = c.args.self.now in
    let i = c.loop-i.i in
    let h = c.head-head in
    (taken_accepted r i c.loop-i-test.true, subst (λ (s : List ℕ). HeadOf (kind_of r) s h.result.lsp h.result.profile) (sym (taken_is r.segments.now i)) h.ensures)

pub loop-i-preserved : goal.loop-i-preserved
loop-i-preserved c =
    let r = c.args.self.now in
    let i = c.loop-i.i in
    let h = in_lent r i c.loop-i-test.true in
    let y = c.args.last.start + c.args.x - c.loop-i.start in
    let under = passing_before (kind_of r) (lent_of r) c.loop-i.invariant h c.requires.0 in
    passing_next (kind_of r) (lent_of r) i h y c.loop-i.invariant c.head-head.ensures (omega (arith, c.requires.0.start_is, under))
    (subst (λ (s : List ℕ). Passed c.args.train (numbers_as (kind_of r) s) y c.loop-i.held c.passed-held.result) (taken_is r.segments.now i) c.passed-held.ensures)

pub returns : goal.returns
returns c =
    let r = c.args.self.now in
    c.permitted.ensures ∙ passing_last (kind_of r) (lent_of r) c.loop-i.invariant (omega (arith, c.loop-i-test.false, lent_count r.segments.now))

pub overflow_sub-y : goal.overflow_sub-y
overflow_sub-y c =
    let r = c.args.self.now in
    passing_before (kind_of r) (lent_of r) c.loop-i.invariant (in_lent r c.loop-i.i c.loop-i-test.true) c.requires.0
