-- `intake::verdict` meets its contract.
use mathlib.Core.Path.{sym, ◌∙◌}
use native.Mathlib.Omega.{arith}
use lib.ListN.{take}
use lib.Seq.{length-take-le}
use Rattle.intake.proofs.Outcomes.{refused_judged, accepted_judged, cut_completed, held_completed}
use Rattle.intake.proofs.verdict.Goals as goal

pub returns-then-room-n : goal.returns-then-room-n
returns-then-room-n c = let a = c.args in cut_completed a.n a.room.now (omega arith) c.judge.ensures

pub slice_bounds-packet-end : goal.slice_bounds-packet-end
slice_bounds-packet-end c = let a = c.args in sym (length-take-le a.n a.room.now (omega arith))

pub returns-in-Err : goal.returns-in-Err
returns-in-Err c =
    let a = c.args in
    held_completed a.n a.room.now (omega arith) (rw c.from.ensures at c.judge-in-Err.ensures ∙ refused_judged a.n (take a.n a.room.now) (rw c.tree_of.ensures at c.in-Err.ensures))

pub returns-in-Ok : goal.returns-in-Ok
returns-in-Ok c = let a = c.args in held_completed a.n a.room.now (omega arith) (c.judge-in-Ok.ensures ∙ accepted_judged a.n (take a.n a.room.now) (rw c.tree_of.ensures at c.in-Ok.ensures))
