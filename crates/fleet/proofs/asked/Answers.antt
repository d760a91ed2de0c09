-- `fleet::asked` meets its contract.
use borrow.Author.Tests.{lt-ltb, le-ltb}
use Rattle.fleet.specs.Fleet.{asked_of}
use Rattle.fleet.proofs.asked.Goals as goal

pub returns-then-n-gt-MOST : goal.returns-then-n-gt-MOST
unfolding asked_of
returns-then-n-gt-MOST c = simp (lt-ltb _ _ c.if-n-gt-MOST.true)

pub returns-else-n-gt-MOST : goal.returns-else-n-gt-MOST
unfolding asked_of
returns-else-n-gt-MOST c = simp (le-ltb _ _ c.if-n-gt-MOST.false)
