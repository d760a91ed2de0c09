-- `packet_journey::whole_head` meets its contract.
use native.Mathlib.Omega.{arith}
use Prim.Native.Nat.{◌+◌, ◌≤◌}
use Rattle.bits.proofs.Fields.{window_small}
use Rattle.packet_journey.proofs.Places.{small, head_on}
use Rattle.packet_journey.proofs.whole_head.Goals as goal

pub short-country-requires : goal.short-country-requires
short-country-requires c = let a = c.args in omega (arith, window_small a.s.now a.spot.at 10 c.read_window.ensures)

pub short-major-requires : goal.short-major-requires
short-major-requires c = let a = c.args in omega (arith, window_small a.s.now (a.spot.at + 42) 22 c.read_window-t.ensures)

-- the bytes of the four numbers are few
sum_small : (c : goal.After-short-minor) → c.short-country.result + c.groups-identity.result + c.short-major.result + c.short-minor.result ≤ 20
sum_small c = small c.args.s.now c.args.stop c.requires.0 c.requires.1 c.read_window-t.ensures (rw c.read_window.ensures at c.short-country.ensures) (rw c.read_window-2.ensures at c.groups-identity.ensures) c.short-major.ensures c.short-minor.ensures

pub overflow_add-bytes : goal.overflow_add-bytes
overflow_add-bytes c = omega (arith, sum_small c)

pub overflow_add-bytes-2 : goal.overflow_add-bytes-2
overflow_add-bytes-2 c = omega (arith, sum_small c)

pub overflow_add-bytes-3 : goal.overflow_add-bytes-3
overflow_add-bytes-3 c = omega (arith, sum_small c)

pub overflow_add-bytes-4 : goal.overflow_add-bytes-4
overflow_add-bytes-4 c = omega (arith, sum_small c)

pub returns : goal.returns
returns c =
    head_on c.args.s.now c.args.stop c.requires.0 c.requires.1 c.read_window-t.ensures (rw c.read_window.ensures at c.short-country.ensures) (rw c.read_window-2.ensures at c.groups-identity.ensures) c.short-major.ensures c.short-minor.ensures
