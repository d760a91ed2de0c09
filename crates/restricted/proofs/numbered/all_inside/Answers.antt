-- `restricted::numbered::all_inside` meets its contract.
use mathlib.Core.Path.{refl, sym, ap, ◌∙◌}
use mathlib.Core.Bool.{Bool, not, ◌&&◌}
use Prim.Native.Nat.{◌-◌}
use native.Mathlib.Omega.{arith}
use Rattle.legs.specs.Travelled.{all_inside}
use Rattle.leg_parts.proofs.Reading.{left_constraint, left_none, left_first}
use Rattle.speed_question.specs.internal.Run.{brought_of, ReadsAs}
use Rattle.restricted.proofs.Journeys.{SameInside, left_begun, left_one}
use Rattle.restricted.proofs.numbered.all_inside.Goals as goal

pub loop-init : goal.loop-init
loop-init c = left_begun (ReadsAs (brought_of c.args.medium) c.args.journey.now) (SameInside c.args.lsp) (λ l. refl) c.requires

pub constraint-c-requires : goal.constraint-c-requires
constraint-c-requires c =
    left_constraint (ReadsAs (brought_of c.args.medium) c.args.journey.now) (c.args.leg.count - c.loop.counter) (omega (arith, c.loop-test.true)) c.loop.invariant

pub returns-then-misplaced : goal.returns-then-misplaced
returns-then-misplaced c =
    record {
      said = λ l a.
          left_first (ReadsAs (brought_of c.args.medium) c.args.journey.now) c.constraint-c.ensures (c.args.leg.count - c.loop.counter) (omega (arith, c.loop-test.true)) c.loop.invariant l a λ m e.
          sym (e ∙ ap (λ (z : Bool). not z && all_inside c.args.lsp m) (sym c.misplaced.ensures ∙ c.if-misplaced.true));
    }

pub loop-preserved : goal.loop-preserved
loop-preserved c =
    left_one (ReadsAs (brought_of c.args.medium) c.args.journey.now) c.constraint-c.ensures (SameInside c.args.lsp)
    (λ l m e. e ∙ ap (λ (z : Bool). not z && all_inside c.args.lsp m) (sym c.misplaced.ensures ∙ c.if-misplaced.false))
    c.args.leg.count c.loop.counter c.loop-test.true c.loop.invariant

pub returns : goal.returns
returns c =
    record { said = λ l a. sym (left_none (ReadsAs (brought_of c.args.medium) c.args.journey.now) (c.args.leg.count - c.loop.counter) (omega (arith, c.loop-test.false)) c.loop.invariant l a) }
