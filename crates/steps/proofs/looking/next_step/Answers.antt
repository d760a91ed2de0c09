-- `steps::looking::next_step` meets its contract.
use mathlib.Core.Path.{refl}
use native.Mathlib.Omega.{arith}
use Rattle.steps.specs.internal.Places.{NextStep}
use Rattle.steps.proofs.looking.next_step.Goals as goal

pub returns-then-start-until : goal.returns-then-start-until
returns-then-start-until c = NextStep.there c.if-next-starts.true c.if-start-until.true refl refl

pub returns-else-start-until : goal.returns-else-start-until
returns-else-start-until c = NextStep.later (λ _. c.if-start-until.false) refl refl

pub returns-else-next-starts : goal.returns-else-next-starts
returns-else-next-starts c = NextStep.later (λ k. absurd (omega (arith, c.if-next-starts.false))) refl refl
