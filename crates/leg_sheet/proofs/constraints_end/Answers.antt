-- `leg_sheet::constraints_end` meets its contract.
use Prim.Native.Nat.{◌*◌}
use native.Mathlib.Omega.{arith}
use Rattle.leg_sheet.proofs.Walking.{constraint_walk, parts_numbers, constraints_passed}
use Rattle.leg_sheet.proofs.constraints_end.Goals as goal

pub numbers_end-requires : goal.numbers_end-requires
numbers_end-requires c =
    let s = c.args.sheet.now in
    let h = c.requires.0 in
    parts_numbers s 8 (constraint_walk s) c.args.count h.follows h.values h.reads _ (omega arith)

pub returns : goal.returns
returns c =
    constraints_passed c.args.sheet.now c.args.count c.args.at (8 * c.args.count) _ (omega arith) c.numbers_end.ensures
