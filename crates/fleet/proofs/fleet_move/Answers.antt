-- `fleet::fleet_move` meets its contract: a card that is named is in the list.
use lib.ListN.{length}
use Rattle.fleet.proofs.Facts.{named_within, named_ok, moved_on, moved_off}
use Rattle.fleet.proofs.fleet_move.Goals as goal

pub bounds-cards-card : goal.bounds-cards-card
bounds-cards-card c = let n = length c.args.cards.now in named_within n c.args.card (named_ok n c.args.card c.in-Ok.ensures)

pub returns-in-Ok : goal.returns-in-Ok
returns-in-Ok c = let a = c.args in moved_on a.cards.now a.card a.location c.in-Ok.ensures

pub returns-in-Err : goal.returns-in-Err
returns-in-Err c = let a = c.args in moved_off a.cards.now a.card a.location c.in-Err.ensures c.from.ensures
