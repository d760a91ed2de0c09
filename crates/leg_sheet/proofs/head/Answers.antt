-- `leg_sheet::head` meets its contract.
use native.Mathlib.Omega.{arith}
use Rattle.leg_sheet.proofs.Parts.{points_few, points_numbers, leg_here}
use Rattle.leg_sheet.proofs.head.Goals as goal

pub overflow_mul-points : goal.overflow_mul-points
overflow_mul-points c =
    omega (arith, points_few c.args.sheet.now c.number-nid_c.ensures c.number-nid_sp.ensures c.number-major.ensures c.number-minor.ensures c.number-direction.ensures c.number-points.ensures c.requires)

pub numbers_end-to-requires : goal.numbers_end-to-requires
numbers_end-to-requires c =
    points_numbers c.args.sheet.now c.number-nid_c.ensures c.number-nid_sp.ensures c.number-major.ensures c.number-minor.ensures c.number-direction.ensures c.number-points.ensures c.requires

pub returns : goal.returns
returns c =
    leg_here c.args.sheet.now c.number-nid_c.ensures c.number-nid_sp.ensures c.number-major.ensures c.number-minor.ensures c.number-direction.ensures c.number-points.ensures c.requires
    c.numbers_end-to.ensures c.number-count.ensures
