-- `restricted::numbered::passed_over` meets its contract.
use mathlib.Core.Path.{refl, sym, ap, ◌∙◌}
use Prim.Native.Nat.{ℕ, ◌-◌}
use native.Mathlib.Omega.{arith}
use Rattle.legs.specs.internal.Passing.{passed_over}
use Rattle.leg_parts.proofs.Reading.{left_constraint, left_none}
use Rattle.speed_question.specs.internal.Run.{brought_of, ReadsAs}
use Rattle.restricted.proofs.Journeys.{SameOver, left_begun, left_one}
use Rattle.restricted.proofs.numbered.passed_over.Goals as goal

pub loop-init : goal.loop-init
loop-init c = left_begun (ReadsAs (brought_of c.args.medium) c.args.journey.now) (SameOver c.args.train c.args.lsp c.args.y c.args.held c.args.held) (λ l. refl) c.requires

pub constraint-c-requires : goal.constraint-c-requires
constraint-c-requires c =
    left_constraint (ReadsAs (brought_of c.args.medium) c.args.journey.now) (c.args.leg.count - c.loop.counter) (omega (arith, c.loop-test.true)) c.loop.invariant

pub loop-preserved : goal.loop-preserved
loop-preserved c =
    let a = c.args in
    left_one (ReadsAs (brought_of a.medium) a.journey.now) c.constraint-c.ensures (SameOver a.train a.lsp a.y a.held c.lowered-low.result)
    (λ l m e. e ∙ ap (λ (n : ℕ). passed_over a.train a.lsp a.y n m) (sym c.lowered-low.ensures)) a.leg.count c.loop.counter c.loop-test.true c.loop.invariant

pub returns : goal.returns
returns c =
    record { said = λ l a. sym (left_none (ReadsAs (brought_of c.args.medium) c.args.journey.now) (c.args.leg.count - c.loop.counter) (omega (arith, c.loop-test.false)) c.loop.invariant l a) }
