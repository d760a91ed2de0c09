-- `fleet::alone` meets its contract, by the test that led to each answer.
use mathlib.Core.Path.{◌∙◌}
use borrow.Author.Tests.{eq-eqb, ne_eqb}
use Rattle.fleet.specs.Fleet.{alone}
use Rattle.fleet.proofs.alone.Goals as goal

pub returns-then-s-eq0 : goal.returns-then-s-eq0
unfolding alone
returns-then-s-eq0 c = simp (eq-eqb _ _ c.if-s-eq0.true)

pub returns : goal.returns
unfolding alone
returns c = c.refused.ensures ∙ simp (ne_eqb _ _ c.if-s-eq0.false)
