-- `intake::put` meets its contract.
use native.Mathlib.Omega.{arith}
use Rattle.intake.proofs.Outcomes.{put_past, put_uncounted, put_held, filled_in}
use Rattle.intake.proofs.put.Goals as goal

pub returns-then-room-from : goal.returns-then-room-from
returns-then-room-from c = let a = c.args in put_past a.n a.delivery.now a.room.now (omega arith) c.pass.ensures

pub returns-then-room-from-2 : goal.returns-then-room-from-2
returns-then-room-from-2 c = let a = c.args in put_past a.n a.delivery.now a.room.now (omega arith) c.pass-then-room-from-2.ensures

pub returns-then-to-gt-MOST : goal.returns-then-to-gt-MOST
returns-then-to-gt-MOST c = let a = c.args in put_uncounted a.n a.delivery.now a.room.now (omega arith) c.pass-then-to-gt-MOST.ensures

pub returns : goal.returns
returns c = let a = c.args in put_held a.n a.delivery.now a.room.now (omega arith) (omega arith) c.gather.ensures (filled_in a.n _ a.delivery.now a.room.now _ (omega arith) c.copy_from_slice.ensures.after)
