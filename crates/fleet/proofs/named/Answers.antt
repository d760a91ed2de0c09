-- `fleet::named` meets its contract.
use mathlib.Core.Path.{sym}
use borrow.Author.Tests.{lt-ltb, le-ltb}
use Rattle.fleet.specs.internal.Turns.{named_as}
use Rattle.fleet.proofs.named.Goals as goal

pub returns-then-card-asked : goal.returns-then-card-asked
unfolding named_as
returns-then-card-asked c = simp (sym c.asked.ensures, lt-ltb _ _ c.if-card-asked.true)

pub returns : goal.returns
unfolding named_as
returns c = simp (sym c.asked.ensures, le-ltb _ _ c.if-card-asked.false)
