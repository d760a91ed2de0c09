-- `screen::cards_in` meets its contract.
use mathlib.Core.Path.{◌∙◌}
use native.Mathlib.Omega.{arith}
use lib.ListN.{length-set}
use Rattle.screen.proofs.Cards.{cards_put}
use Rattle.screen.proofs.cards_in.Goals as goal

pub loop-i-preserved : goal.loop-i-preserved
loop-i-preserved c =
    let l = c.loop-i in
    (cards_put l.i c.args.values.now l.cards (omega (arith, l.invariant.1, c.loop-i-test.true, c.requires)) l.invariant.0 c.card.ensures, length-set l.cards _ _ ∙ l.invariant.1)
