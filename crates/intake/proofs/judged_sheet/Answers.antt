-- `intake::judged_sheet` meets its contract.
use mathlib.Core.Path.{sym}
use native.Mathlib.Omega.{arith}
use lib.Seq.{length-take-le}
use Rattle.intake.proofs.Outcomes.{cut_sheet, whole_sheet_lem}
use Rattle.intake.proofs.judged_sheet.Goals as goal

pub returns-then-taken-n : goal.returns-then-taken-n
returns-then-taken-n c = let a = c.args in cut_sheet a.n a.taken.now a.room.now (omega arith) c.refused.ensures

pub slice_bounds-packet_to_sheet-end : goal.slice_bounds-packet_to_sheet-end
slice_bounds-packet_to_sheet-end c = let a = c.args in sym (length-take-le a.n a.taken.now (omega arith))

pub returns : goal.returns
returns c =
    let a = c.args in
    whole_sheet_lem a.n a.taken.now a.room.now (omega arith) c.packet_to_sheet.ensures
