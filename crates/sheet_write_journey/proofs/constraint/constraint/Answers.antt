-- `sheet_write_journey::constraint::constraint` meets its contract.
use lib.Dec.{lit<, lit≤}
use Rattle.sheet_write_journey.proofs.constraint.Constraints.{start_row, end_row, restriction_here, constraint_wrote}
use Rattle.sheet_write_journey.proofs.constraint.constraint.Goals as goal

pub start-end-requires : goal.start-end-requires
start-end-requires c = start_row _ _ c.requires

pub number-front-requires : goal.number-front-requires
number-front-requires c = (end_row _ _ c.requires c.start-end.ensures, lit< tt, lit≤ tt)

pub restriction-requires : goal.restriction-requires
restriction-requires c = restriction_here _ _ c.requires c.start-end.ensures c.number-front.ensures

pub returns : goal.returns
returns c =
    constraint_wrote _ _ c.requires c.start-end.ensures c.number-front.ensures c.restriction.ensures
