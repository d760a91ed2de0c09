-- `packet_journey::constraint::whole_constraint` meets its contract.
use Prim.Native.Nat.{◌+◌, ◌≤◌}
use Rattle.bits.proofs.Fields.{window_small}
use Rattle.packet_journey.proofs.constraint.Places.{constraint_small, constraint_on}
use native.Mathlib.Omega.{arith}
use Rattle.packet_journey.proofs.constraint.whole_constraint.Goals as goal

pub stretch_bytes-stretch-requires : goal.stretch_bytes-stretch-requires
stretch_bytes-stretch-requires c = let a = c.args in (omega arith, window_small a.s.now (a.spot.at + 28) 24 c.read_window-end.ensures)

pub restriction_bytes-restriction-requires : goal.restriction_bytes-restriction-requires
restriction_bytes-restriction-requires c = let a = c.args in window_small a.s.now (a.spot.at + 52) 21 c.read_window-uses.ensures

-- the bytes of both parts are few
sum_small : (c : goal.Else-restriction-eq0) → c.stretch_bytes-stretch.result + c.restriction_bytes-restriction.result ≤ 30
sum_small c = constraint_small c.args.s.now c.args.stop c.requires.0 c.requires.1 c.read_window-t.ensures c.read_window-end.ensures c.read_window-uses.ensures c.stretch_bytes-stretch.ensures c.restriction_bytes-restriction.ensures

pub overflow_add-bytes : goal.overflow_add-bytes
overflow_add-bytes c = omega (arith, sum_small c)

pub overflow_add-bytes-2 : goal.overflow_add-bytes-2
overflow_add-bytes-2 c = omega (arith, sum_small c)

pub returns : goal.returns
returns c =
    constraint_on c.args.s.now c.args.stop c.requires.0 c.requires.1 c.read_window-t.ensures c.read_window-end.ensures c.read_window-uses.ensures c.stretch_bytes-stretch.ensures c.restriction_bytes-restriction.ensures c.if-stretch-eq0.false c.if-restriction-eq0.false
