-- `packet_journey::point::whole_point` meets its contract.
use native.Mathlib.Omega.{arith}
use Prim.Native.Nat.{◌+◌, ◌≤◌}
use Rattle.bits.proofs.Fields.{window_small}
use Rattle.packet_journey.proofs.point.Places.{small, point_on}
use Rattle.packet_journey.proofs.point.whole_point.Goals as goal

pub marks_bytes-marks-requires : goal.marks_bytes-marks-requires
marks_bytes-marks-requires c = let a = c.args in window_small a.s.now (a.spot.at + 64) 17 c.read_window-t.ensures

pub eight_bytes-eight-requires : goal.eight_bytes-eight-requires
eight_bytes-eight-requires c = let a = c.args in (window_small a.s.now (a.spot.at + 81) 20 c.read_window-doors.ensures, window_small a.s.now (a.spot.at + 101) 28 c.read_window-leaving.ensures)

-- the bytes of the four parts are few
sum_small : (c : goal.After-groups-name) → c.groups-name.result + c.latest_bytes-latest.result + c.marks_bytes-marks.result + c.eight_bytes-eight.result ≤ 80
sum_small c = small c.args.s.now c.args.stop c.requires.0 c.requires.1 c.read_window.ensures c.read_window-t.ensures c.read_window-doors.ensures c.read_window-leaving.ensures (rw c.read_window-2.ensures at c.groups-name.ensures) c.latest_bytes-latest.ensures c.marks_bytes-marks.ensures c.eight_bytes-eight.ensures

pub overflow_add-bytes : goal.overflow_add-bytes
overflow_add-bytes c = omega (arith, sum_small c)

pub overflow_add-bytes-2 : goal.overflow_add-bytes-2
overflow_add-bytes-2 c = omega (arith, sum_small c)

pub overflow_add-bytes-3 : goal.overflow_add-bytes-3
overflow_add-bytes-3 c = omega (arith, sum_small c)

pub returns : goal.returns
returns c =
    point_on c.args.s.now c.args.stop c.requires.0 c.requires.1 c.read_window.ensures c.read_window-t.ensures c.read_window-doors.ensures c.read_window-leaving.ensures (rw c.read_window-2.ensures at c.groups-name.ensures) c.latest_bytes-latest.ensures c.marks_bytes-marks.ensures c.eight_bytes-eight.ensures c.if-latest-eq0.false c.if-marks-eq0.false c.if-eight-eq0.false
