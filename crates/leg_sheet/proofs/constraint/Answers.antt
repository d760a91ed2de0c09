-- `leg_sheet::constraint` meets its contract.
use Rattle.leg_sheet.proofs.Parts.{constraint_here, adhesion_numbers}
use Rattle.leg_sheet.proofs.constraint.Goals as goal

pub numbers_end-requires : goal.numbers_end-requires
numbers_end-requires c =
    adhesion_numbers c.args.sheet.now c.number-of.ensures c.number-range.ensures c.number-start.ensures c.number-end.ensures c.number-q_front.ensures c.number-speed.ensures c.requires

pub returns : goal.returns
returns c =
    constraint_here c.args.sheet.now c.number-of.ensures c.number-range.ensures c.number-start.ensures c.number-end.ensures c.number-q_front.ensures c.number-speed.ensures c.numbers_end.ensures
